use Rattle.std.proofs.Common.{◌^◌, ◌≤◌, ℤ, pos, ◌-ℤ◌, unsigned_abs, arith, ap, ap₂, ◌∙◌, FitsSigned, rules}
use Rattle.std.specs.Int.{w128}
use Rattle.std.proofs.lemmas.Int.{ints, to_z-of_z}
use Rattle.integer_algebra.specs.Sums.{at}
use Rattle.frac_scaled.specs.Enclosures.{Enclosure, enclosed, sum_of}
use Rattle.plan_excess.proofs.GradientFacts.{sum_short, sum_long, some_same}
use Rattle.plan_excess.proofs.SlopeFacts.{negated}
use Rattle.plan_excess.proofs.slope.step.Goals as goal

negative : (z : ℤ) → unsigned_abs z ≤ 2 ^ 63 → FitsSigned w128 (pos 0 -ℤ z)
negative z h = omega (arith, ints, h)

opposite : (z : ℤ) → unsigned_abs z ≤ 2 ^ 63 → unsigned_abs (pos 0 -ℤ z) ≤ 2 ^ 63
opposite z h = omega (arith, ints, h)

pub bounds-corner-j-2 : goal.bounds-corner-j-2
bounds-corner-j-2 c = rw c.requires.plans.reference.long c.requires.entry

pub fraction-plan-requires-clause-small : goal.fraction-plan-requires-clause-small
fraction-plan-requires-clause-small c =
    let x : FitsSigned w128 (at c.args.corner.now.plan.now c.args.j) = search rules in
    rw (to_z-of_z w128 _ x) (c.requires.plans.plan.small c.args.j c.requires.entry)

pub fraction-plan-requires-clause-divisor : goal.fraction-plan-requires-clause-divisor
fraction-plan-requires-clause-divisor c =
    let q : FitsSigned w128 c.args.corner.now.over = search rules in
    rw (to_z-of_z w128 _ q) c.requires.plans.plan.positive

pub overflow_sub-corner : goal.overflow_sub-corner
overflow_sub-corner c =
    let x : FitsSigned w128 (at c.args.corner.now.reference.now c.args.j) = search rules in
    rw (to_z-of_z w128 _ x) (negative (at c.args.corner.now.reference.now c.args.j) (c.requires.plans.reference.small c.args.j c.requires.entry))

pub fraction-reference-requires-clause-small : goal.fraction-reference-requires-clause-small
fraction-reference-requires-clause-small c =
    let w = at c.args.corner.now.reference.now c.args.j in
    let small = c.requires.plans.reference.small c.args.j c.requires.entry in
    let x : FitsSigned w128 (at c.args.corner.now.reference.now c.args.j) = search rules in
    rw (to_z-of_z w128 _ x, to_z-of_z w128 _ (negative w small)) (opposite w small)

pub fraction-reference-requires-clause-divisor : goal.fraction-reference-requires-clause-divisor
fraction-reference-requires-clause-divisor c =
    let o : FitsSigned w128 c.args.corner.now.under = search rules in
    rw (to_z-of_z w128 _ o) c.requires.plans.reference.positive

pub returns-clause-value : goal.returns-clause-value
returns-clause-value c =
    let k = c.args.corner.now in
    let w = at k.reference.now c.args.j in
    let small = c.requires.plans.reference.small c.args.j c.requires.entry in
    let u : FitsSigned w128 (at c.args.corner.now.plan.now c.args.j) = search rules in
    let x : FitsSigned w128 (at c.args.corner.now.reference.now c.args.j) = search rules in
    let q : FitsSigned w128 c.args.corner.now.over = search rules in
    let o : FitsSigned w128 c.args.corner.now.under = search rules in
    let plan = rw (to_z-of_z w128 _ u, to_z-of_z w128 _ q) at c.fraction-plan.ensures in
    let reference = rw (to_z-of_z w128 _ x, to_z-of_z w128 _ (negative w small), to_z-of_z w128 _ o) at c.fraction-reference.ensures in
    some_same c.add.result _ _ (ap₂ (λ (a b : Enclosure). sum_of a b) plan (reference ∙ ap (λ (z : ℤ). enclosed z (unsigned_abs k.under)) (negated w))) c.add.ensures.value

pub returns-clause-room : goal.returns-clause-room
returns-clause-room c =
    let k = c.args.corner.now in
    let w = at k.reference.now c.args.j in
    let small = c.requires.plans.reference.small c.args.j c.requires.entry in
    let u : FitsSigned w128 (at c.args.corner.now.plan.now c.args.j) = search rules in
    let x : FitsSigned w128 (at c.args.corner.now.reference.now c.args.j) = search rules in
    let q : FitsSigned w128 c.args.corner.now.over = search rules in
    let o : FitsSigned w128 c.args.corner.now.under = search rules in
    let plan = rw (to_z-of_z w128 _ u, to_z-of_z w128 _ q) at c.fraction-plan.ensures in
    let reference = rw (to_z-of_z w128 _ x, to_z-of_z w128 _ (negative w small), to_z-of_z w128 _ o) at c.fraction-reference.ensures in
    let opposed = reference ∙ ap (λ (z : ℤ). enclosed z (unsigned_abs k.under)) (negated w) in (
      λ s. sum_long _ _ _ _ plan opposed c.fraction-plan.result.nonnegative c.fraction-reference.result.nonnegative (c.add.ensures.room.0 s),
      λ h. c.add.ensures.room.1 (sum_short _ _ _ _ plan opposed h),
    )
