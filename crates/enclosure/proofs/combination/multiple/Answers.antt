use Rattle.std.proofs.Common.{◌*ℤ◌, rules, arith, refl, ◌∙◌, FitsSigned}
use Rattle.std.specs.Int.{w128}
use Rattle.std.proofs.lemmas.Int.{to_z-of_z, to_z_pos, fits_signed_from_abs}
use Rattle.enclosure.proofs.RoomLaws.{same_pair}
use Rattle.enclosure.proofs.SumLaws.{multiple_small, multiple_rest}
use Rattle.enclosure.proofs.combination.multiple.Goals as goal

pub overflow_mul-mid : goal.overflow_mul-mid
overflow_mul-mid c =
    let f : FitsSigned w128 c.args.x.mid = search rules in
    let small = multiple_small c.args.c c.args.x.mid c.args.x.rad in
    let size = rw (to_z-of_z w128 _ c.ranges.c) at c.unsigned_abs.ensures.value in
    let room = rw (size, c.magnitude.ensures) at c.in_ok-most.ensures.0 in
    let fits : FitsSigned w128 (c.args.c *ℤ c.args.x.mid) = fits_signed_from_abs w128 _ (omega (arith, small, room)) in
    rw (to_z-of_z w128 _ c.ranges.c, to_z-of_z w128 _ f) fits

pub overflow_sub-result : goal.overflow_sub-result
overflow_sub-result c =
    let f : FitsSigned w128 c.args.x.mid = search rules in
    let small = multiple_small c.args.c c.args.x.mid c.args.x.rad in
    let size = rw (to_z-of_z w128 _ c.ranges.c) at c.unsigned_abs.ensures.value in
    let room = rw (size, c.magnitude.ensures) at c.in_ok-most.ensures.0 in
    let fits : FitsSigned w128 (c.args.c *ℤ c.args.x.mid) = fits_signed_from_abs w128 _ (omega (arith, small, room)) in
    let most = rw (size, c.magnitude.ensures) at c.in_ok-most.ensures.1 in
    let mid = rw (to_z-of_z w128 _ c.ranges.c, to_z-of_z w128 _ f, to_z-of_z w128 _ fits) at c.unsigned_abs-2.ensures.value in
    omega (arith, small, most, mid)

pub returns-clause-value : goal.returns-clause-value
returns-clause-value c =
    let f : FitsSigned w128 c.args.x.mid = search rules in
    let small = multiple_small c.args.c c.args.x.mid c.args.x.rad in
    let size = rw (to_z-of_z w128 _ c.ranges.c) at c.unsigned_abs.ensures.value in
    let room = rw (size, c.magnitude.ensures) at c.in_ok-most.ensures.0 in
    let fits : FitsSigned w128 (c.args.c *ℤ c.args.x.mid) = fits_signed_from_abs w128 _ (omega (arith, small, room)) in
    let most = rw (size, c.magnitude.ensures) at c.in_ok-most.ensures.1 in
    let mid = rw (to_z-of_z w128 _ c.ranges.c, to_z-of_z w128 _ f, to_z-of_z w128 _ fits) at c.unsigned_abs-2.ensures.value in
    same_pair (rw (to_z-of_z w128 _ c.ranges.c, to_z-of_z w128 _ f, to_z-of_z w128 _ fits) refl)
    (rw (mid, most) (to_z_pos w128 _ (omega (arith, room)) ∙ multiple_rest c.args.c c.args.x.mid c.args.x.rad c.args.x.nonnegative))
