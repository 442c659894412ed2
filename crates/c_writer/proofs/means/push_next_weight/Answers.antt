use Rattle.std.proofs.Common.{◌++◌, ◌∙◌, ℕ, List, ap, string_bytes}
use Rattle.c_writer.proofs.Texts.{next_weight_text}
use Rattle.c_writer.proofs.means.push_next_weight.Goals as goal

pub returns : goal.returns
returns c = c.in_ok-push_str.ensures.bytes ∙ ap (λ (t : List ℕ). string_bytes c.args.text.now ++ t) next_weight_text
