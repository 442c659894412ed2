use Rattle.std.proofs.Common.{◌^◌, ◌*ℤ◌, pos, arith, rules, refl, FitsSigned}
use Rattle.std.specs.Int.{w128}
use Rattle.std.proofs.lemmas.Int.{to_z-of_z, fits_signed_from_abs}
use Rattle.qp_model.specs.machine.Controller.{numbers}
use Rattle.qp_model.specs.machine.Machine.{lowering_of}
use Rattle.fast_machine.proofs.FastRuns.{twice_abs}
use Rattle.fast_machine.proofs.FastRooms.{clamp_room, floor_fits}
use Rattle.fast_machine.proofs.step.top_at.Goals as goal

pub overflow_mul-c : goal.overflow_mul-c
overflow_mul-c c =
    let clamp : FitsSigned w128 c.args.c.now.clamp = search rules in
    rw (to_z-of_z w128 _ clamp) (fits_signed_from_abs w128 _ (omega (arith, twice_abs c.args.c.now.clamp, clamp_room (numbers c.args.c.now) c.args.i c.requires.sound c.requires.in_range)))

pub returns : goal.returns
returns c =
    let clamp : FitsSigned w128 c.args.c.now.clamp = search rules in
    let twice : FitsSigned w128 (pos 2 *ℤ c.args.c.now.clamp) = fits_signed_from_abs w128 _ (omega (arith, twice_abs c.args.c.now.clamp, clamp_room (numbers c.args.c.now) c.args.i c.requires.sound c.requires.in_range)) in
    rw (c.floor_shift.ensures.value, c.lowering_at.ensures.value, to_z-of_z w128 _ clamp, to_z-of_z w128 _ twice, to_z-of_z w128 _ (floor_fits _ (2 ^ lowering_of (numbers c.args.c.now) c.args.i) twice)) refl
