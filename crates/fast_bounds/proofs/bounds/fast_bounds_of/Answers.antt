use Rattle.std.proofs.Common.{◌≡◌, ℕ, ◌+◌, ◌<◌, ◌≤◌, ℤ, pos, ◌≤ℤ◌, length, unsigned_abs, rules, arith, refl, ap, sym, subst, ◌∙◌}
use Rattle.std.specs.Int.{w128}
use Rattle.std.proofs.lemmas.Int.{ints, to_z-of_z}
use mir.Val.{SFits}
use Rattle.qp_model.specs.bounds.Choices.{undercut_bound}
use Rattle.qp_model.specs.machine.Controller.{Numbers}
use Rattle.dual_bounds.specs.FastSteps.{quarter_steps}
use Rattle.lean_engine.specs.Engine.RowExponents.{exponent_in}
use Rattle.overflow_check.specs.FastController.{IsFastController}
use Rattle.lean_engine.specs.Engine.Terms.{row_bound, repaired}
use Rattle.lean_engine.proofs.Engine.PrintedFacts.{repaired_is, repaired_least}
use Rattle.fast_bounds.specs.FastTerms.{HasFastUndercutRoom}
use Rattle.fast_bounds.proofs.FastPrinted.{below, listed, run_of}
use Rattle.fast_bounds.proofs.bounds.fast_bounds_of.Goals as goal

-- ---- the run
pub fast_violation-violation-requires : goal.fast_violation-violation-requires
fast_violation-violation-requires c =
    let n = c.args.controller.now in
    let sound : IsFastController n = search rules in
    let r : SFits w128 c.args.terms.aim.r = search rules in
    rw (to_z-of_z w128 _ r, to_z-of_z w128 _ c.ranges.eps)
    (run_of n _ _ sound c.parts-parts.ensures.value refl refl c.requires.terms.aim.some c.requires.narrow c.requires.errors c.requires.small c.requires.terms.target)

pub fast_violations_after-requires-clause-run : goal.fast_violations_after-requires-clause-run
fast_violations_after-requires-clause-run c =
    let n = c.args.controller.now in
    let sound : IsFastController n = search rules in
    let r : SFits w128 c.args.terms.aim.r = search rules in
    rw (to_z-of_z w128 _ r, to_z-of_z w128 _ c.ranges.eps)
    (run_of n _ _ sound c.parts-parts.ensures.value refl refl c.requires.terms.aim.some c.requires.narrow c.requires.errors c.requires.small c.requires.terms.target)

pub fast_violations_after-requires-clause-rows : goal.fast_violations_after-requires-clause-rows
fast_violations_after-requires-clause-rows c =
    let n = c.args.controller.now in
    let sound : IsFastController n = search rules in
    subst (λ (s : ℕ). (i : ℕ) → i < length c.deref.result.now → exponent_in c.deref.result.now i ≤ s) (ap (λ (x : Numbers). x.step_exponent) (sym c.parts-parts.ensures.value))
    (below n _ sound (c.deref.ensures.value ∙ ap (λ (x : Numbers). x.exponents) c.parts-parts.ensures.value))

-- ---- the undercut
pub undercut-requires-clause-rows : goal.undercut-requires-clause-rows
undercut-requires-clause-rows c =
    let v : SFits w128 c.fast_violation-violation.result = search rules in
    let w : SFits w128 c.unwrap_or.result = search rules in
    rw (to_z-of_z w128 _ w, c.unwrap_or.ensures, to_z-of_z w128 _ v) (repaired_least c.args.terms.target c.fast_violation-violation.result _ c.fast_violation-violation.ensures c.requires.terms.target)

pub undercut-requires-clause-fits : goal.undercut-requires-clause-fits
undercut-requires-clause-fits c =
    let v : SFits w128 c.fast_violation-violation.result = search rules in
    let w : SFits w128 c.unwrap_or.result = search rules in
    let r : SFits w128 c.args.terms.aim.r = search rules in
    let e : SFits w128 c.args.eps = c.ranges.eps in
    let room = subst (λ (n : Numbers). HasFastUndercutRoom c.args.terms n (unsigned_abs c.args.eps)) (sym c.parts-parts.ensures.value) c.requires.fits in
    rw (
      to_z-of_z w128 _ w,
      c.unwrap_or.ensures,
      to_z-of_z w128 _ v,
      to_z-of_z w128 _ r,
      repaired_is c.args.terms.target c.fast_violation-violation.result _ (rw (to_z-of_z w128 _ r, to_z-of_z w128 _ e) at c.fast_violation-violation.ensures),
    ) room

-- ---- what is printed
pub returns : goal.returns
returns c =
    let n = c.args.controller.now in
    let sound : IsFastController n = search rules in
    let r : SFits w128 c.args.terms.aim.r = search rules in
    let v : SFits w128 c.fast_violation-violation.result = search rules in
    let w : SFits w128 c.unwrap_or.result = search rules in
    let u : SFits w128 c.undercut.result = search rules in
    let e : SFits w128 c.args.eps = c.ranges.eps in
    let m : SFits w128 c.args.terms.units = search rules in
    let k : SFits w128 c.args.terms.cost = search rules in
    let parts = c.parts-parts.ensures.value in
    let most = rw (to_z-of_z w128 _ r, to_z-of_z w128 _ e) at c.fast_violation-violation.ensures in
    let rows = listed n c.in_ok-rows.rows.items c.deref.result.now
    (λ (s : ℕ). pos (row_bound c.args.terms.target (s + 2) (c.parts-parts.result.now.s + 2) (unsigned_abs c.args.terms.aim.r) (quarter_steps c.parts-parts.result.now.steps) (unsigned_abs c.args.eps)))
    sound (c.deref.ensures.value ∙ ap (λ (x : Numbers). x.exponents) parts) (rw (to_z-of_z w128 _ r, to_z-of_z w128 _ e) at c.in_ok-rows.ensures) in
    rw (to_z-of_z w128 _ r, to_z-of_z w128 _ v, to_z-of_z w128 _ u, to_z-of_z w128 _ e, to_z-of_z w128 _ m, to_z-of_z w128 _ k)
    (record {
      units = refl;
      corners = refl;
      lean = c.is_some.ensures;
      bounds = record {
        version = ap (λ (x : Numbers). x.version) parts;
        multiplier = whole c.args.terms.aim.r c.requires.terms.aim.some;
        step = ap (λ (x : Numbers). x.step_exponent) parts;
        steps = ap (λ (x : Numbers). x.steps) parts;
        bits = ap (λ (x : Numbers). x.fraction_bits) parts;
        width = ap (λ (x : Numbers). x.width) parts;
        words = ap (λ (x : Numbers). x.words) parts;
        violation = most ∙ ap (λ (x : Numbers). pos (row_bound c.args.terms.target (x.step_exponent + 2) (x.step_exponent + 2) (unsigned_abs c.args.terms.aim.r) (quarter_steps x.steps) (unsigned_abs c.args.eps))) parts;
        row_count = rows.long;
        row_violations = λ i l. rows.is i l ∙
            ap (λ (x : Numbers). pos (row_bound c.args.terms.target (exponent_in n.exponents i + 2) (x.step_exponent + 2) (unsigned_abs c.args.terms.aim.r) (quarter_steps x.steps) (unsigned_abs c.args.eps))) parts;
        gap = nonneg c.args.eps c.requires.errors;
        undercut = (rw (to_z-of_z w128 _ r, to_z-of_z w128 _ w, c.unwrap_or.ensures, to_z-of_z w128 _ v, repaired_is c.args.terms.target c.fast_violation-violation.result _ most) at c.undercut.ensures) ∙
            ap (λ (x : Numbers). pos (undercut_bound (unsigned_abs c.args.terms.aim.r)
            (repaired c.args.terms.target (row_bound c.args.terms.target (x.step_exponent + 2) (x.step_exponent + 2) (unsigned_abs c.args.terms.aim.r) (quarter_steps x.steps) (unsigned_abs c.args.eps))))) parts;
      };
    })
  where
    whole : (z : ℤ) → pos 1 ≤ℤ z → z ≡ pos (unsigned_abs z)
    whole z l = omega (arith, ints, l)

    nonneg : (z : ℤ) → pos 0 ≤ℤ z → z ≡ pos (unsigned_abs z)
    nonneg z l = omega (arith, ints, l)
