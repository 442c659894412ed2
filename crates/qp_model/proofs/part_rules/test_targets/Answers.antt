use Rattle.std.proofs.Common.{rules, [], ◌∷◌}
use Rattle.std.specs.Int.{w128}
use mir.Val.{SFits}
use Rattle.qp_model.specs.problem.Range.{IsPositive, IsDenominator}
use Rattle.qp_model.specs.problem.Rules.{range}
use Rattle.qp_model.proofs.RuleLaws.{test_last, tests_rule}
use Rattle.qp_model.proofs.PartTests.{denominator_test, positive_test}
use Rattle.qp_model.proofs.part_rules.test_targets.Goals as goal

pub returns : goal.returns
returns c =
    let p = c.args.p.now in
    let target : SFits w128 p.target_den = search rules in
    let violation : SFits w128 p.violation = search rules in
    let gap : SFits w128 p.gap = search rules in
    tests_rule (range 19 (IsDenominator p.target_den) ∷ range 20 (IsPositive p.violation) ∷ []) (range 21 (IsPositive p.gap)) _ _ _ _ c.and-2.ensures
    (tests_rule (range 19 (IsDenominator p.target_den) ∷ []) (range 20 (IsPositive p.violation)) _ _ _ _ c.and.ensures
    (test_last _ _ _ c.in_range.ensures.ok c.in_range.ensures.err (denominator_test _ _ target c.is_denominator.ensures))
    c.in_range-2.ensures.ok c.in_range-2.ensures.err (positive_test _ _ violation c.is_positive.ensures))
    c.in_range-3.ensures.ok c.in_range-3.ensures.err (positive_test _ _ gap c.is_positive-2.ensures)
