use Rattle.std.proofs.Common.{◌∙◌, ℤ, List, ap, rules, FitsSigned}
use Rattle.std.specs.Int.{w128}
use Rattle.std.proofs.lemmas.Int.{to_z-of_z}
use Rattle.integer_algebra.specs.Sums.{at}
use Rattle.text_lines.specs.Lines.{view}
use Rattle.cell_file.proofs.Grammars.{head_law}
use Rattle.cell_file.proofs.grammar.is_head.Goals as goal

pub returns-then-has_place : goal.returns-then-has_place
returns-then-has_place c =
    let fits : FitsSigned w128 c.number_at.result = search rules in
    head_law (view c.args.line.now) _ _ (c.has_place.ensures.0 c.if-has_place.true) (to_z-of_z w128 _ fits ∙ c.number_at.ensures ∙ ap (λ (zs : List ℤ). at zs 0) c.deref.ensures.value) c.is_count.ensures
