use Rattle.std.proofs.Common.{rules, ◌+◌, [], ◌∷◌, ◌++◌, All}
use Rattle.std.specs.Int.{w128}
use mir.Val.{SFits}
use Rattle.qp_model.specs.problem.Range.{IsNumerator, IsDenominator}
use Rattle.qp_model.specs.problem.Rules.{shape, range}
use Rattle.qp_model.specs.problem.PartRules.{HasSize, AreLimits}
use Rattle.qp_model.proofs.RuleLaws.{test_last, tests_and, tests_rule}
use Rattle.qp_model.proofs.PartTests.{denominator_test}
use Rattle.qp_model.proofs.part_rules.test_limits.Goals as goal

pub returns : goal.returns
returns c =
    let p = c.args.p.now in
    let limit : SFits w128 p.limit_den = search rules in
    let den = range 13 (IsDenominator p.limit_den) ∷ [] in
    let stage = shape 14 (HasSize p.stage_rows 0 12 (p.states + p.inputs + 1)) ∷ range 14 (All (All IsNumerator) p.stage_rows.rows) ∷ [] in
    let sized = shape 15 (HasSize p.final_rows 0 12 (p.states + 1)) in
    tests_rule (den ++ (stage ++ (sized ∷ []))) (range 15 (AreLimits p.final_rows.rows p.stage_rows.rows)) _ _ _ _ c.and-3.ensures
    (tests_rule (den ++ stage) sized _ _ _ _ c.and-2.ensures
    (tests_and den stage _ _ _ c.and.ensures
    (test_last _ _ _ c.in_range.ensures.ok c.in_range.ensures.err (denominator_test _ _ limit c.is_denominator.ensures))
    c.test_table.ensures)
    c.in_shape.ensures.ok c.in_shape.ensures.err c.has_size.ensures)
    c.in_range-2.ensures.ok c.in_range-2.ensures.err c.are_limits.ensures
