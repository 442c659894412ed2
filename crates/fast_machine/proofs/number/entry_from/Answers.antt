use Rattle.std.proofs.Common.{◌≡◌, ◌+◌, ◌^◌, ◌-ℤ◌, ℤ, pos, neg_ℤ, arith}
use Rattle.std.specs.Int.{w128}
use Rattle.std.proofs.lemmas.Int.{ints, to_z-of_z}
use Rattle.fast_machine.proofs.FastRooms.{entry_fits, floor_fits}
use Rattle.fast_machine.proofs.number.entry_from.Goals as goal

minus_is : (z : ℤ) → pos 0 -ℤ z ≡ neg_ℤ z
minus_is z = omega (arith, ints)

pub scaled-requires-clause-fits : goal.scaled-requires-clause-fits
scaled-requires-clause-fits c = rw (to_z-of_z w128 _ c.ranges.offset) (entry_fits c.args.own c.args.offset c.args.dual c.args.f c.args.s c.requires.room).shifted

pub overflow_add-unscaled : goal.overflow_add-unscaled
overflow_add-unscaled c =
    let fits = entry_fits c.args.own c.args.offset c.args.dual c.args.f c.args.s c.requires.room in
    rw (c.scaled.ensures, to_z-of_z w128 _ c.ranges.own, to_z-of_z w128 _ c.ranges.offset, to_z-of_z w128 _ fits.shifted) fits.unscaled

pub scaled-requires-2-clause-fits : goal.scaled-requires-2-clause-fits
scaled-requires-2-clause-fits c =
    let fits = entry_fits c.args.own c.args.offset c.args.dual c.args.f c.args.s c.requires.room in
    rw (c.scaled.ensures, to_z-of_z w128 _ c.ranges.own, to_z-of_z w128 _ c.ranges.offset, to_z-of_z w128 _ fits.shifted, to_z-of_z w128 _ fits.unscaled) fits.scaled

pub overflow_add-sum : goal.overflow_add-sum
overflow_add-sum c =
    let fits = entry_fits c.args.own c.args.offset c.args.dual c.args.f c.args.s c.requires.room in
    rw (c.scaled-2.ensures, c.scaled.ensures, to_z-of_z w128 _ c.ranges.own, to_z-of_z w128 _ c.ranges.dual, to_z-of_z w128 _ c.ranges.offset, to_z-of_z w128 _ fits.shifted, to_z-of_z w128 _ fits.unscaled, to_z-of_z w128 _ fits.scaled) fits.sum

pub overflow_sub-result : goal.overflow_sub-result
overflow_sub-result c =
    let fits = entry_fits c.args.own c.args.offset c.args.dual c.args.f c.args.s c.requires.room in
    let floor = floor_fits _ (2 ^ (c.args.f + c.args.s)) fits.sum in
    rw (c.floor_shift.ensures.value, c.scaled-2.ensures, c.scaled.ensures, to_z-of_z w128 _ c.ranges.own, to_z-of_z w128 _ c.ranges.dual, to_z-of_z w128 _ c.ranges.offset, to_z-of_z w128 _ fits.shifted, to_z-of_z w128 _ fits.unscaled, to_z-of_z w128 _ fits.scaled, to_z-of_z w128 _ fits.sum, to_z-of_z w128 _ floor)
    fits.minus

pub returns : goal.returns
returns c =
    let fits = entry_fits c.args.own c.args.offset c.args.dual c.args.f c.args.s c.requires.room in
    let floor = floor_fits _ (2 ^ (c.args.f + c.args.s)) fits.sum in
    rw (c.floor_shift.ensures.value, c.scaled-2.ensures, c.scaled.ensures, to_z-of_z w128 _ c.ranges.own, to_z-of_z w128 _ c.ranges.dual, to_z-of_z w128 _ c.ranges.offset, to_z-of_z w128 _ fits.shifted, to_z-of_z w128 _ fits.unscaled, to_z-of_z w128 _ fits.scaled, to_z-of_z w128 _ fits.sum, to_z-of_z w128 _ floor, to_z-of_z w128 _ fits.minus)
    (minus_is _)
