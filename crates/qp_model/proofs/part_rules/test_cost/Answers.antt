use Rattle.std.proofs.Common.{◌≡◌, rules, ◌+◌, [], ◌∷◌, ◌++◌, length, All}
use Rattle.std.specs.Int.{w128}
use mir.Val.{SFits}
use Rattle.qp_model.specs.problem.Range.{IsPositive, IsDenominator}
use Rattle.qp_model.specs.problem.Rules.{shape, range}
use Rattle.qp_model.specs.problem.PartRules.{HasSize, AreCosts}
use Rattle.qp_model.proofs.RuleLaws.{test_last, tests_and, tests_rule}
use Rattle.qp_model.proofs.PartTests.{denominator_test, count_test, weights_test}
use Rattle.qp_model.proofs.part_rules.test_cost.Goals as goal

pub returns : goal.returns
returns c =
    let p = c.args.p.now in
    let cost : SFits w128 p.cost_den = search rules in
    let row : SFits w128 p.row_den = search rules in
    let one = range 8 (IsDenominator p.cost_den) ∷ [] in
    let two = range 8 (IsDenominator p.cost_den) ∷ range 9 (IsDenominator p.row_den) ∷ [] in
    let counted = shape 10 (length p.input_weights.items ≡ p.inputs) in
    let positive = range 10 (All IsPositive p.input_weights.items) in
    let stage = shape 11 (HasSize p.stage_cost 0 12 (p.states + 2)) ∷ range 11 (AreCosts p.stage_cost.rows (p.states + 1)) ∷ [] in
    let final = shape 12 (HasSize p.final_cost 0 12 (p.states + 2)) ∷ range 12 (AreCosts p.final_cost.rows (p.states + 1)) ∷ [] in
    tests_and (two ++ (counted ∷ positive ∷ stage)) final _ _ _ c.and-5.ensures
    (tests_and (two ++ (counted ∷ positive ∷ [])) stage _ _ _ c.and-4.ensures
    (tests_rule (two ++ (counted ∷ [])) positive _ _ _ _ c.and-3.ensures
    (tests_rule two counted _ _ _ _ c.and-2.ensures
    (tests_rule one (range 9 (IsDenominator p.row_den)) _ _ _ _ c.and.ensures
    (test_last _ _ _ c.in_range.ensures.ok c.in_range.ensures.err (denominator_test _ _ cost c.is_denominator.ensures))
    c.in_range-2.ensures.ok c.in_range-2.ensures.err (denominator_test _ _ row c.is_denominator-2.ensures))
    c.in_shape.ensures.ok c.in_shape.ensures.err (count_test _ _ _ _ c.len.ensures p.input_weights.ok.0))
    c.in_range-3.ensures.ok c.in_range-3.ensures.err (weights_test _ _ _ c.deref.ensures.value c.are_positive.ensures))
    c.test_costs.ensures) c.test_costs-2.ensures
