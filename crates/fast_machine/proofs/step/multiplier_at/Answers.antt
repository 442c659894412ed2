use Rattle.std.proofs.Common.{rules, FitsSigned}
use Rattle.std.specs.Int.{w128}
use Rattle.std.proofs.lemmas.Int.{to_z-of_z}
use Rattle.qp_model.specs.machine.Controller.{numbers}
use Rattle.fast_machine.proofs.FastRooms.{moving_room}
use Rattle.fast_machine.proofs.step.multiplier_at.Goals as goal

pub moved_from-requires-clause-room : goal.moved_from-requires-clause-room
moved_from-requires-clause-room c =
    let residual : FitsSigned w128 c.residual_at.result = search rules in
    rw (to_z-of_z w128 _ c.ranges.old, to_z-of_z w128 _ residual, c.residual_at.ensures)
    (moving_room (numbers c.args.c.now) c.args.state.now c.args.plan.now c.args.old c.args.k c.args.i c.requires.setting.sound c.requires.step c.requires.in_range c.requires.old c.requires.setting.within c.requires.plan)
