use Rattle.std.proofs.Common.{◌≡◌, ◌++◌, ◌∙◌, ℕ, List, ap, string_bytes, decimal, rules}
use Rattle.c_writer.proofs.QuickTexts.{second_text}
use Rattle.c_writer.proofs.quick.push_second_round.Goals as goal

pub returns : goal.returns
returns c =
    let m = c.args.from.now in
    let a : c.as_str-number.result.now ≡ decimal c.args.i = search rules in
    c.in_ok-push_pieces.ensures ∙ ap (λ (t : List ℕ). string_bytes c.args.text.now ++ t) (rw a (second_text m c.args.i))
