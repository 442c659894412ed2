use Rattle.std.proofs.Common.{◌≡◌, ◌≤◌, [], ◌∷◌, length, All}
use Rattle.std.proofs.lemmas.Result.{err_from_is_err_and}
use Rattle.qp_model.specs.problem.Range.{IsNumerator}
use Rattle.qp_model.specs.problem.Rules.{shape, range}
use Rattle.qp_model.specs.problem.PartRules.{AreHighs}
use Rattle.qp_model.proofs.RuleLaws.{test_after, test_next, test_last, broken_before, broken_next}
use Rattle.qp_model.proofs.PartTests.{count_test, highs_test, highs_beside}
use Rattle.qp_model.proofs.part_rules.test_box.Goals as goal

pub returns-in_err-test_lows : goal.returns-in_err-test_lows
returns-in_err-test_lows c =
    let p = c.args.p.now in
    let e = err_from_is_err_and c.from_residual.result c.from_residual.ensures.1 in
    rw (e.1, e.2) (broken_before (range 16 (p.grid ≤ 24) ∷ shape 17 (length p.lo.items ≡ p.states) ∷ range 17 (All IsNumerator p.lo.items) ∷ [])
    (shape 18 (length p.hi.items ≡ p.states) ∷ range 18 (AreHighs p.hi.items p.lo.items p.states) ∷ []) _ c.in_err-test_lows.ensures)

pub returns-in_err-in_shape : goal.returns-in_err-in_shape
returns-in_err-in_shape c =
    let p = c.args.p.now in
    broken_next (range 16 (p.grid ≤ 24) ∷ shape 17 (length p.lo.items ≡ p.states) ∷ range 17 (All IsNumerator p.lo.items) ∷ [])
    _ _ _ _ _ c.in_ok-test_lows.ensures c.from_residual-in_err-in_shape.ensures.1
    (count_test _ _ _ _ c.len.ensures p.hi.ok.0) c.in_err-in_shape.ensures.err

pub are_highs-requires : goal.are_highs-requires
are_highs-requires c =
    let p = c.args.p.now in
    highs_beside _ _ _ _ p.states c.deref.ensures.value c.deref-2.ensures.value c.in_ok-test_lows.ensures.1.0
    ((count_test _ _ _ _ c.len.ensures p.hi.ok.0).0 c.in_ok-in_shape.ensures.ok)

pub returns : goal.returns
returns c =
    let p = c.args.p.now in
    test_after (range 16 (p.grid ≤ 24) ∷ shape 17 (length p.lo.items ≡ p.states) ∷ range 17 (All IsNumerator p.lo.items) ∷ [])
    _ _ c.in_ok-test_lows.ensures
    (test_next _ _ _ _ (count_test _ _ _ _ c.len.ensures p.hi.ok.0) c.in_ok-in_shape.ensures.ok
    (test_last _ _ _ c.in_range.ensures.ok c.in_range.ensures.err
    (highs_test _ _ _ _ _ _ c.deref.ensures.value c.deref-2.ensures.value c.in_ok-test_lows.ensures.1.0 c.are_highs.ensures)))
