use Rattle.std.proofs.Common.{◌≡◌, pos, arith, rules, FitsSigned}
use Rattle.std.specs.Int.{w128}
use Rattle.std.proofs.lemmas.Int.{to_z-of_z}
use Rattle.std.proofs.lemmas.List.{get_or_read}
use Rattle.integer_algebra.specs.Sums.{at}
use Rattle.qp_model.specs.machine.Controller.{numbers}
use Rattle.overflow_check.proofs.Sizes.{length-state_reach}
use Rattle.overflow_check.specs.FastController.{with_last_version}
use Rattle.fast_machine.proofs.FastRooms.{own_room, dual_room, entry_room}
use Rattle.fast_machine.proofs.step.entry_at.Goals as goal

pub dot-own-requires-clause-lengths : goal.dot-own-requires-clause-lengths
dot-own-requires-clause-lengths c =
    let sized = c.requires.setting.sound.form.sized.rest in
    omega (arith, c.row.ensures.len, sized.shaped.state_gains.cols, c.requires.setting.within.long, length-state_reach (with_last_version (numbers c.args.c.now)) sized)

pub dot-own-requires-clause-room : goal.dot-own-requires-clause-room
dot-own-requires-clause-room c = rw c.row.ensures.value (own_room (numbers c.args.c.now) c.args.state.now c.args.j c.requires.setting.sound c.requires.in_range c.requires.setting.within)

pub dot-dual-requires-clause-room : goal.dot-dual-requires-clause-room
dot-dual-requires-clause-room c = rw c.row-2.ensures.value (dual_room (numbers c.args.c.now) c.args.means.now c.args.j c.requires.setting.sound c.requires.in_range c.requires.means)

pub entry_from-requires-clause-room : goal.entry_from-requires-clause-room
entry_from-requires-clause-room c =
    let own : FitsSigned w128 c.dot-own.result = search rules in
    let dual : FitsSigned w128 c.dot-dual.result = search rules in
    let offset : FitsSigned w128 c.index.result.now = search rules in
    let read : c.index.result.now ≡ at c.args.c.now.t.items c.args.j = get_or_read _ _ _ c.requires.in_range c.index.ensures (pos 0) in
    rw (to_z-of_z w128 _ own, to_z-of_z w128 _ dual, to_z-of_z w128 _ offset, read, c.dot-own.ensures, c.dot-dual.ensures, c.row.ensures.value, c.row-2.ensures.value)
    (entry_room (numbers c.args.c.now) c.args.state.now c.args.means.now c.args.j c.requires.setting.sound c.requires.in_range c.requires.setting.within c.requires.means)
