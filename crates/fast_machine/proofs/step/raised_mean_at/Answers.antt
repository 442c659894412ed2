use Rattle.std.proofs.Common.{pos, get_or, rules, FitsSigned}
use Rattle.std.specs.Int.{w128}
use Rattle.std.proofs.lemmas.Int.{to_z-of_z}
use Rattle.qp_model.specs.machine.Controller.{numbers}
use Rattle.fast_machine.proofs.FastRooms.{mean_room, raised_fits}
use Rattle.fast_machine.proofs.step.raised_mean_at.Goals as goal

pub mean_from-requires-clause-room : goal.mean_from-requires-clause-room
mean_from-requires-clause-room c =
    let r = c.requires.ready in
    let v : FitsSigned w128 (get_or c.args.multipliers.now c.args.i (pos 0)) = search rules in
    let s : FitsSigned w128 (get_or c.args.reached.now c.args.i (pos 0)) = search rules in
    rw (to_z-of_z w128 _ v, to_z-of_z w128 _ s)
    (mean_room (numbers c.args.c.now) c.args.multipliers.now c.args.reached.now c.args.k c.args.i c.requires.sound c.requires.step c.requires.in_range r)

pub scaled-requires-clause-fits : goal.scaled-requires-clause-fits
scaled-requires-clause-fits c =
    let r = c.requires.ready in
    let v : FitsSigned w128 (get_or c.args.multipliers.now c.args.i (pos 0)) = search rules in
    let s : FitsSigned w128 (get_or c.args.reached.now c.args.i (pos 0)) = search rules in
    let mean : FitsSigned w128 c.mean_from.result = search rules in
    rw (c.lowering_at.ensures.value, to_z-of_z w128 _ mean, c.mean_from.ensures, to_z-of_z w128 _ v, to_z-of_z w128 _ s)
    (raised_fits (numbers c.args.c.now) c.args.multipliers.now c.args.reached.now c.args.k c.args.i c.requires.sound c.requires.in_range r)
