use Rattle.std.proofs.Common.{rules, [], ◌∷◌, ◌++◌, All}
use Rattle.std.specs.Int.{w128}
use mir.Val.{SFits}
use Rattle.qp_model.specs.problem.Range.{IsNumerator, IsDenominator}
use Rattle.qp_model.specs.problem.Rules.{shape, range}
use Rattle.qp_model.specs.problem.PartRules.{HasSize}
use Rattle.qp_model.proofs.RuleLaws.{test_last, tests_and}
use Rattle.qp_model.proofs.PartTests.{denominator_test}
use Rattle.qp_model.proofs.part_rules.test_plant.Goals as goal

pub returns : goal.returns
returns c =
    let p = c.args.p.now in
    let plant : SFits w128 p.plant_den = search rules in
    let den = range 5 (IsDenominator p.plant_den) ∷ [] in
    let a = shape 6 (HasSize p.a p.states p.states p.states) ∷ range 6 (All (All IsNumerator) p.a.rows) ∷ [] in
    let b = shape 7 (HasSize p.b p.states p.states p.inputs) ∷ range 7 (All (All IsNumerator) p.b.rows) ∷ [] in
    tests_and (den ++ a) b _ _ _ c.and-2.ensures
    (tests_and den a _ _ _ c.and.ensures
    (test_last _ _ _ c.in_range.ensures.ok c.in_range.ensures.err (denominator_test _ _ plant c.is_denominator.ensures))
    c.test_table.ensures) c.test_table-2.ensures
