use Rattle.std.proofs.Common.{ℤ, unsigned_abs, rules, arith, refl, subst, FitsSigned}
use Rattle.std.specs.Int.{w128}
use Rattle.std.proofs.lemmas.Int.{ints, to_z-of_z}
use Rattle.frac_scaled.specs.Enclosures.{Encloses, magnitude, enclosed}
use Rattle.frac_scaled.proofs.EnclosureLaws.{enclosed_law}
use Rattle.enclosure.proofs.RoomLaws.{same_pair, refused, limit_is, divisor_is}
use Rattle.enclosure.proofs.WideLaws.{too_far, none_of, covered}
use Rattle.enclosure.proofs.wide.enclose_wide.Goals as goal

pub returns-in_err-quotient-clause-room : goal.returns-in_err-quotient-clause-room
returns-in_err-quotient-clause-room c =
    none_of c.from_residual.result (magnitude (enclosed c.args.num (unsigned_abs c.args.den))) c.from_residual.ensures
    (too_far c.args.num c.args.den c.requires (rw (to_z-of_z w128 _ c.ranges.num, to_z-of_z w128 _ c.ranges.den) at c.in_err-quotient.ensures.far refl))

pub returns-in_err-limited_sum-clause-room : goal.returns-in_err-limited_sum-clause-room
returns-in_err-limited_sum-clause-room c =
    let m : FitsSigned w128 c.rounded.result = search rules in
    let r : FitsSigned w128 c.left.result = search rules in
    let mid = rw (to_z-of_z w128 _ c.ranges.num, to_z-of_z w128 _ c.ranges.den) at (c.rounded.ensures _ c.in_ok-quotient.ensures.value) in
    let rad = rw (to_z-of_z w128 _ c.ranges.num, to_z-of_z w128 _ c.ranges.den) at (c.left.ensures.value _ c.in_ok-quotient.ensures.value) in
    let size = rw (to_z-of_z w128 _ m, to_z-of_z w128 _ r) at c.magnitude.ensures in
    refused c.from_residual-in_err-limited_sum.result _ _ c.from_residual-in_err-limited_sum.ensures
    (covered c.rounded.result c.left.result _ _ c.magnitude.result mid rad c.left.ensures.nonnegative size) c.in_err-limited_sum.ensures

pub returns-clause-value : goal.returns-clause-value
returns-clause-value c =
    let m : FitsSigned w128 c.rounded.result = search rules in
    let r : FitsSigned w128 c.left.result = search rules in
    let mid = rw (to_z-of_z w128 _ c.ranges.num, to_z-of_z w128 _ c.ranges.den) at (c.rounded.ensures _ c.in_ok-quotient.ensures.value) in
    let rad = rw (to_z-of_z w128 _ c.ranges.num, to_z-of_z w128 _ c.ranges.den) at (c.left.ensures.value _ c.in_ok-quotient.ensures.value) in
    rw (to_z-of_z w128 _ m, to_z-of_z w128 _ r) (same_pair mid rad)

pub returns-clause-room : goal.returns-clause-room
returns-clause-room c =
    let m : FitsSigned w128 c.rounded.result = search rules in
    let r : FitsSigned w128 c.left.result = search rules in
    let mid = rw (to_z-of_z w128 _ c.ranges.num, to_z-of_z w128 _ c.ranges.den) at (c.rounded.ensures _ c.in_ok-quotient.ensures.value) in
    let rad = rw (to_z-of_z w128 _ c.ranges.num, to_z-of_z w128 _ c.ranges.den) at (c.left.ensures.value _ c.in_ok-quotient.ensures.value) in
    let size = rw (to_z-of_z w128 _ m, to_z-of_z w128 _ r) at c.magnitude.ensures in
    (λ h. (limit_is _ _ (covered c.rounded.result c.left.result _ _ c.magnitude.result mid rad c.left.ensures.nonnegative size)).0 c.in_ok-limited_sum.ensures.0, λ h. refl)

pub returns-clause-encloses : goal.returns-clause-encloses
returns-clause-encloses c =
    rw (returns-clause-value c) (subst (λ (d : ℤ). Encloses (enclosed c.args.num (unsigned_abs c.args.den)) c.args.num d) (divisor_is c.args.den c.requires)
    (enclosed_law c.args.num (unsigned_abs c.args.den) (omega (arith, ints, c.requires))))
