use Rattle.std.proofs.Common.{◌^◌, refl}
use Rattle.std.specs.Int.{w128}
use Rattle.std.proofs.lemmas.Int.{to_z-of_z}
use Rattle.fast_machine.proofs.FastRooms.{residual_fits, floor_fits}
use Rattle.fast_machine.proofs.number.residual_from.Goals as goal

pub returns : goal.returns
returns c =
    let fits = residual_fits c.args.planned c.args.own c.args.bound c.args.f c.requires.room in
    let floor = floor_fits _ (2 ^ c.args.f) fits.residual in
    rw (c.floor_shift.ensures.value, c.scaled.ensures, to_z-of_z w128 _ c.ranges.planned, to_z-of_z w128 _ c.ranges.own, to_z-of_z w128 _ c.ranges.bound, to_z-of_z w128 _ fits.shifted, to_z-of_z w128 _ fits.products, to_z-of_z w128 _ fits.residual, to_z-of_z w128 _ floor) refl
