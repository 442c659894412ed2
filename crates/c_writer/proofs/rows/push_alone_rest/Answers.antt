use Rattle.std.proofs.Common.{◌++◌, ◌∙◌, ℕ, List, ap, sym, string_bytes}
use Rattle.std.proofs.lemmas.Bool.{cond-false}
use Rattle.c_writer.proofs.rows.push_alone_rest.Goals as goal

pub returns : goal.returns
returns c =
    c.in_ok-push_plan_row.ensures ∙
    ap (λ (t : List ℕ). string_bytes c.args.text.now ++ t) (sym (cond-false _ _ _ c.requires.alone ∙ cond-false _ _ _ c.requires.other))
