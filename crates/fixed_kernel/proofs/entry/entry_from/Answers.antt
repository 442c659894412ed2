use Rattle.std.proofs.Common.{◌≡◌, ◌^◌, ◌-ℤ◌, ℤ, pos, neg_ℤ, arith}
use Rattle.std.specs.Int.{w128}
use Rattle.std.proofs.lemmas.Int.{ints, to_z-of_z}
use Rattle.fixed_kernel.proofs.Fits.{floor_fits, outer_fits, minus_fits}
use Rattle.fixed_kernel.proofs.entry.entry_from.Goals as goal

minus_is : (z : ℤ) → pos 0 -ℤ z ≡ neg_ℤ z
minus_is z = omega (arith, ints)

pub overflow_add-result : goal.overflow_add-result
overflow_add-result c =
    let floor = floor_fits _ (2 ^ c.args.f) c.ranges.sum in
    rw (c.short_shift.ensures, to_z-of_z w128 _ c.ranges.sum, to_z-of_z w128 _ c.ranges.offset, to_z-of_z w128 _ floor)
    (outer_fits c.args.sum c.args.offset (2 ^ c.args.f) c.requires.fits)

pub overflow_sub-result : goal.overflow_sub-result
overflow_sub-result c =
    let floor = floor_fits _ (2 ^ c.args.f) c.ranges.sum in
    let outer = outer_fits c.args.sum c.args.offset (2 ^ c.args.f) c.requires.fits in
    rw (c.short_shift.ensures, to_z-of_z w128 _ c.ranges.sum, to_z-of_z w128 _ c.ranges.offset, to_z-of_z w128 _ floor, to_z-of_z w128 _ outer)
    (minus_fits c.args.sum c.args.offset (2 ^ c.args.f) c.requires.fits)

pub returns : goal.returns
returns c =
    let floor = floor_fits _ (2 ^ c.args.f) c.ranges.sum in
    let outer = outer_fits c.args.sum c.args.offset (2 ^ c.args.f) c.requires.fits in
    let minus = minus_fits c.args.sum c.args.offset (2 ^ c.args.f) c.requires.fits in
    rw (c.short_shift.ensures, to_z-of_z w128 _ c.ranges.sum, to_z-of_z w128 _ c.ranges.offset, to_z-of_z w128 _ floor, to_z-of_z w128 _ outer, to_z-of_z w128 _ minus)
    (minus_is _)
