use Rattle.std.proofs.Common.{ap₂, ◌∙◌}
use Rattle.frac_scaled.specs.Enclosures.{sum_of}
use Rattle.enclosure.specs.Values.{pair}
use Rattle.scaled_run.proofs.RowFacts.{state_sum_room, input_sum_room, both_room}
use Rattle.scaled_run.proofs.run.ScaledRun.stage_limit.Goals as goal

pub state_sum-state-requires-clause-room : goal.state_sum-state-requires-clause-room
state_sum-state-requires-clause-room c =
    let self = c.args.self.now in
    state_sum_room self.parts.now self.reach self.start.items self.plan.items self.made.ready c.args.row.now c.args.k c.requires.stage c.requires.narrow c.requires.fits

pub input_sum-input-requires-clause-room : goal.input_sum-input-requires-clause-room
input_sum-input-requires-clause-room c =
    let self = c.args.self.now in
    input_sum_room self.parts.now self.reach self.start.items self.plan.items self.made.ready c.args.row.now c.args.k c.requires.stage c.requires.narrow c.requires.fits

pub unreachable-requires : goal.unreachable-requires
unreachable-requires c =
    let self = c.args.self.now in
    let no = c.in_default.ensures.room.1 (both_room self.parts.now self.reach self.start.items self.plan.items self.made.ready c.args.row.now c.args.k
    c.requires.stage c.requires.narrow c.requires.fits (pair c.state_sum-state.result) (pair c.input_sum-input.result) c.state_sum-state.ensures c.input_sum-input.ensures) in
    cc no

pub returns : goal.returns
returns c = c.in-Some.ensures.value ∙ ap₂ sum_of c.state_sum-state.ensures c.input_sum-input.ensures
