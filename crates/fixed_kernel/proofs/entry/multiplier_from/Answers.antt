use Rattle.std.proofs.Common.{◌^◌, refl, rules, FitsSigned}
use Rattle.std.specs.Int.{w128}
use Rattle.std.proofs.lemmas.Int.{to_z-of_z}
use Rattle.fixed_kernel.proofs.Fits.{floor_fits, moved_fits, next_fits}
use Rattle.fixed_kernel.proofs.Floors.{row_floor}
use Rattle.fixed_kernel.proofs.entry.multiplier_from.Goals as goal

pub overflow_sub-moved : goal.overflow_sub-moved
overflow_sub-moved c =
    let floor = floor_fits _ (2 ^ c.args.f) c.ranges.row in
    rw (c.short_shift.ensures, to_z-of_z w128 _ c.ranges.row, to_z-of_z w128 _ c.ranges.bound, to_z-of_z w128 _ floor)
    (moved_fits c.args.row c.args.bound c.args.f c.requires.row)

pub overflow_add-old : goal.overflow_add-old
overflow_add-old c =
    let floor = floor_fits _ (2 ^ c.args.f) c.ranges.row in
    let moved = moved_fits c.args.row c.args.bound c.args.f c.requires.row in
    rw (c.short_shift.ensures, to_z-of_z w128 _ c.ranges.row, to_z-of_z w128 _ c.ranges.bound, to_z-of_z w128 _ c.ranges.old, to_z-of_z w128 _ floor, to_z-of_z w128 _ moved)
    (next_fits c.args.row c.args.bound c.args.old c.args.f c.requires.next)

pub returns : goal.returns
returns c =
    let max : FitsSigned w128 c.max.result = search rules in
    let min : FitsSigned w128 c.min.result = search rules in
    let floor = floor_fits _ (2 ^ c.args.f) c.ranges.row in
    let moved = moved_fits c.args.row c.args.bound c.args.f c.requires.row in
    let next = next_fits c.args.row c.args.bound c.args.old c.args.f c.requires.next in
    rw (
      row_floor,
      to_z-of_z w128 _ min,
      c.min.ensures.value,
      to_z-of_z w128 _ max,
      to_z-of_z w128 _ c.ranges.top,
      c.max.ensures.value,
      c.short_shift.ensures,
      to_z-of_z w128 _ c.ranges.row,
      to_z-of_z w128 _ c.ranges.bound,
      to_z-of_z w128 _ c.ranges.old,
      to_z-of_z w128 _ floor,
      to_z-of_z w128 _ moved,
      to_z-of_z w128 _ next,
    ) refl
