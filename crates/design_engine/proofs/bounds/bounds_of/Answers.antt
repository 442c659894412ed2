use Rattle.std.proofs.Common.{◌≡◌, ℕ, ◌<◌, ◌≤◌, ℤ, pos, ◌≤ℤ◌, length, unsigned_abs, rules, arith, refl, ap, sym, subst, ◌∙◌}
use Rattle.std.specs.Int.{w128}
use Rattle.std.proofs.lemmas.Int.{ints, to_z-of_z}
use mir.Val.{SFits}
use Rattle.qp_model.specs.bounds.Choices.{undercut_bound}
use Rattle.qp_model.specs.machine.Controller.{Numbers}
use Rattle.qp_model.specs.machine.AbsoluteSums.{IsController}
use Rattle.hessian_check.specs.RowExponents.{exponent_in}
use Rattle.design_engine.specs.Terms.{row_bound, repaired, HasUndercutRoom}
use Rattle.design_engine.proofs.PrintedFacts.{below, listed, repaired_is, repaired_least, run_within}
use Rattle.design_engine.proofs.bounds.bounds_of.Goals as goal

-- ---- the run
pub row_bound-violation-requires-clause-run : goal.row_bound-violation-requires-clause-run
row_bound-violation-requires-clause-run c =
    let n = c.args.controller.now in
    let sound : IsController n = search rules in
    let r : SFits w128 c.args.terms.aim.r = search rules in
    let parts = c.parts-parts.ensures.value in
    let exponent : c.parts-parts.result.now.s ≤ 40 = rw (ap (λ (x : Numbers). x.step_exponent) parts) sound.form.sized.step_exponent in
    let steps : 1 ≤ c.parts-parts.result.now.steps = rw (ap (λ (x : Numbers). x.steps) parts) sound.form.sized.steps.0 in
    rw (to_z-of_z w128 _ r, to_z-of_z w128 _ c.ranges.eps)
    (run_within _ exponent c.requires.terms.aim.some c.requires.terms.aim.narrow steps c.requires.errors c.requires.small c.requires.terms.target)

pub violations_after-requires-clause-run : goal.violations_after-requires-clause-run
violations_after-requires-clause-run c =
    let n = c.args.controller.now in
    let sound : IsController n = search rules in
    let r : SFits w128 c.args.terms.aim.r = search rules in
    let parts = c.parts-parts.ensures.value in
    let exponent : c.parts-parts.result.now.s ≤ 40 = rw (ap (λ (x : Numbers). x.step_exponent) parts) sound.form.sized.step_exponent in
    let steps : 1 ≤ c.parts-parts.result.now.steps = rw (ap (λ (x : Numbers). x.steps) parts) sound.form.sized.steps.0 in
    rw (to_z-of_z w128 _ r, to_z-of_z w128 _ c.ranges.eps)
    (run_within _ exponent c.requires.terms.aim.some c.requires.terms.aim.narrow steps c.requires.errors c.requires.small c.requires.terms.target)

pub violations_after-requires-clause-rows : goal.violations_after-requires-clause-rows
violations_after-requires-clause-rows c =
    let n = c.args.controller.now in
    let sound : IsController n = search rules in
    subst (λ (s : ℕ). (i : ℕ) → i < length c.deref.result.now → exponent_in c.deref.result.now i ≤ s) (ap (λ (x : Numbers). x.step_exponent) (sym c.parts-parts.ensures.value))
    (below n _ sound (c.deref.ensures.value ∙ ap (λ (x : Numbers). x.exponents) c.parts-parts.ensures.value))

-- ---- the undercut
pub undercut-requires-clause-rows : goal.undercut-requires-clause-rows
undercut-requires-clause-rows c =
    let v : SFits w128 c.row_bound-violation.result = search rules in
    let w : SFits w128 c.unwrap_or.result = search rules in
    rw (to_z-of_z w128 _ w, c.unwrap_or.ensures, to_z-of_z w128 _ v) (repaired_least c.args.terms.target c.row_bound-violation.result _ c.row_bound-violation.ensures c.requires.terms.target)

pub undercut-requires-clause-fits : goal.undercut-requires-clause-fits
undercut-requires-clause-fits c =
    let v : SFits w128 c.row_bound-violation.result = search rules in
    let w : SFits w128 c.unwrap_or.result = search rules in
    let r : SFits w128 c.args.terms.aim.r = search rules in
    let e : SFits w128 c.args.eps = c.ranges.eps in
    let room = subst (λ (n : Numbers). HasUndercutRoom c.args.terms n (unsigned_abs c.args.eps)) (sym c.parts-parts.ensures.value) c.requires.fits in
    rw (
      to_z-of_z w128 _ w,
      c.unwrap_or.ensures,
      to_z-of_z w128 _ v,
      to_z-of_z w128 _ r,
      repaired_is c.args.terms.target c.row_bound-violation.result _ (rw (to_z-of_z w128 _ r, to_z-of_z w128 _ e) at c.row_bound-violation.ensures),
    ) room

-- ---- what is printed
pub returns : goal.returns
returns c =
    let n = c.args.controller.now in
    let sound : IsController n = search rules in
    let r : SFits w128 c.args.terms.aim.r = search rules in
    let v : SFits w128 c.row_bound-violation.result = search rules in
    let w : SFits w128 c.unwrap_or.result = search rules in
    let u : SFits w128 c.undercut.result = search rules in
    let e : SFits w128 c.args.eps = c.ranges.eps in
    let m : SFits w128 c.args.terms.units = search rules in
    let k : SFits w128 c.args.terms.cost = search rules in
    let parts = c.parts-parts.ensures.value in
    let most = rw (to_z-of_z w128 _ r, to_z-of_z w128 _ e) at c.row_bound-violation.ensures in
    let rows = listed n c.in_ok-rows.rows.items c.deref.result.now
    (λ (s : ℕ). pos (row_bound c.args.terms.target s c.parts-parts.result.now.s (unsigned_abs c.args.terms.aim.r) c.parts-parts.result.now.steps (unsigned_abs c.args.eps)))
    sound (c.deref.ensures.value ∙ ap (λ (x : Numbers). x.exponents) parts) (rw (to_z-of_z w128 _ r, to_z-of_z w128 _ e) at c.in_ok-rows.ensures) in
    rw (to_z-of_z w128 _ r, to_z-of_z w128 _ v, to_z-of_z w128 _ u, to_z-of_z w128 _ e, to_z-of_z w128 _ m, to_z-of_z w128 _ k)
    (record {
      units = refl;
      corners = refl;
      lean = c.is_some.ensures;
      bounds = record {
        version = ap (λ (x : Numbers). x.version) parts;
        multiplier = whole c.args.terms.aim.r c.requires.terms.aim.some;
        step = ap (λ (x : Numbers). x.step_exponent) parts;
        steps = ap (λ (x : Numbers). x.steps) parts;
        bits = ap (λ (x : Numbers). x.fraction_bits) parts;
        width = ap (λ (x : Numbers). x.width) parts;
        words = ap (λ (x : Numbers). x.words) parts;
        violation = most ∙ ap (λ (x : Numbers). pos (row_bound c.args.terms.target x.step_exponent x.step_exponent (unsigned_abs c.args.terms.aim.r) x.steps (unsigned_abs c.args.eps))) parts;
        row_count = rows.long;
        row_violations = λ i l. rows.is i l ∙
            ap (λ (x : Numbers). pos (row_bound c.args.terms.target (exponent_in n.exponents i) x.step_exponent (unsigned_abs c.args.terms.aim.r) x.steps (unsigned_abs c.args.eps))) parts;
        gap = nonneg c.args.eps c.requires.errors;
        undercut = (rw (to_z-of_z w128 _ r, to_z-of_z w128 _ w, c.unwrap_or.ensures, to_z-of_z w128 _ v, repaired_is c.args.terms.target c.row_bound-violation.result _ most) at c.undercut.ensures) ∙
            ap (λ (x : Numbers). pos (undercut_bound (unsigned_abs c.args.terms.aim.r)
            (repaired c.args.terms.target (row_bound c.args.terms.target x.step_exponent x.step_exponent (unsigned_abs c.args.terms.aim.r) x.steps (unsigned_abs c.args.eps))))) parts;
      };
    })
  where
    whole : (z : ℤ) → pos 1 ≤ℤ z → z ≡ pos (unsigned_abs z)
    whole z l = omega (arith, ints, l)

    nonneg : (z : ℤ) → pos 0 ≤ℤ z → z ≡ pos (unsigned_abs z)
    nonneg z l = omega (arith, ints, l)
