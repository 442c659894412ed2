use Rattle.std.proofs.Common.{◌++◌, ◌∙◌, ◌==◌, ℕ, List, ap, sym, string_bytes}
use Rattle.std.proofs.lemmas.Bool.{cond-true, eq-eqb}
use Rattle.c_writer.proofs.words.push_plain_value.Goals as goal

pub returns : goal.returns
returns c =
    c.in_ok-push_value.ensures ∙ ap (λ (t : List ℕ). string_bytes c.args.text.now ++ t) (sym (cond-true (c.args.k == 0) _ _ (eq-eqb c.args.k 0 c.requires)))
