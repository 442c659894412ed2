use Rattle.std.proofs.Common.{◌≡◌, pos, arith, rules, FitsSigned}
use Rattle.std.specs.Int.{w128}
use Rattle.std.proofs.lemmas.Int.{to_z-of_z}
use Rattle.std.proofs.lemmas.List.{get_or_read}
use Rattle.integer_algebra.specs.Sums.{at}
use Rattle.qp_model.specs.machine.Controller.{numbers}
use Rattle.overflow_check.proofs.Sizes.{length-state_reach, length-plan_reach}
use Rattle.overflow_check.specs.FastController.{with_last_version}
use Rattle.fast_machine.proofs.FastRooms.{planned_room, state_room, row_room}
use Rattle.fast_machine.proofs.step.residual_at.Goals as goal

pub dot-planned-requires-clause-lengths : goal.dot-planned-requires-clause-lengths
dot-planned-requires-clause-lengths c =
    let shaped = c.requires.setting.sound.form.sized.rest.shaped in
    omega (arith, c.row.ensures.len, shaped.plan_rows.cols, shaped.offsets, c.requires.plan.long, length-plan_reach (numbers c.args.c.now))

pub dot-planned-requires-clause-room : goal.dot-planned-requires-clause-room
dot-planned-requires-clause-room c = rw c.row.ensures.value (planned_room (numbers c.args.c.now) c.args.plan.now c.args.i c.requires.setting.sound c.requires.in_range c.requires.plan)

pub dot-own-requires-clause-lengths : goal.dot-own-requires-clause-lengths
dot-own-requires-clause-lengths c =
    let sized = c.requires.setting.sound.form.sized.rest in
    omega (arith, c.row-2.ensures.len, sized.shaped.state_rows.cols, c.requires.setting.within.long, length-state_reach (with_last_version (numbers c.args.c.now)) sized)

pub dot-own-requires-clause-room : goal.dot-own-requires-clause-room
dot-own-requires-clause-room c =
    rw c.row-2.ensures.value (state_room (numbers c.args.c.now) c.args.state.now c.args.plan.now c.args.i c.requires.setting.sound c.requires.in_range c.requires.setting.within c.requires.plan)

pub residual_from-requires-clause-room : goal.residual_from-requires-clause-room
residual_from-requires-clause-room c =
    let planned : FitsSigned w128 c.dot-planned.result = search rules in
    let own : FitsSigned w128 c.dot-own.result = search rules in
    let bound : FitsSigned w128 c.index.result.now = search rules in
    let read : c.index.result.now ≡ at c.args.c.now.bound.items c.args.i = get_or_read _ _ _ c.requires.in_range c.index.ensures (pos 0) in
    rw (to_z-of_z w128 _ planned, to_z-of_z w128 _ own, to_z-of_z w128 _ bound, read, c.dot-planned.ensures, c.dot-own.ensures, c.row.ensures.value, c.row-2.ensures.value)
    (row_room (numbers c.args.c.now) c.args.state.now c.args.plan.now c.args.i c.requires.setting.sound c.requires.in_range c.requires.setting.within c.requires.plan)
