use Rattle.std.proofs.Common.{◌≡◌, ◌≤◌, [], ◌∷◌, length, All}
use Rattle.qp_model.specs.problem.Range.{IsNumerator}
use Rattle.qp_model.specs.problem.Rules.{shape, range}
use Rattle.qp_model.proofs.RuleLaws.{test_last, tests_rule}
use Rattle.qp_model.proofs.PartTests.{at_most_test, count_test, numerators_test}
use Rattle.qp_model.proofs.part_rules.test_lows.Goals as goal

pub returns : goal.returns
returns c =
    let p = c.args.p.now in
    let grid = range 16 (p.grid ≤ 24) in
    let counted = shape 17 (length p.lo.items ≡ p.states) in
    tests_rule (grid ∷ counted ∷ []) (range 17 (All IsNumerator p.lo.items)) _ _ _ _ c.and-2.ensures
    (tests_rule (grid ∷ []) counted _ _ _ _ c.and.ensures
    (test_last grid _ _ c.in_range.ensures.ok c.in_range.ensures.err (at_most_test p.grid 24))
    c.in_shape.ensures.ok c.in_shape.ensures.err (count_test _ _ _ _ c.len.ensures p.lo.ok.0))
    c.in_range-2.ensures.ok c.in_range-2.ensures.err (numerators_test _ _ _ c.deref.ensures.value c.are_numerators.ensures)
