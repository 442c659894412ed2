use Rattle.std.proofs.Common.{ap, ◌∙◌}
use Rattle.qp_model.specs.machine.Controller.{Numbers}
use Rattle.command_line.proofs.Following.{stopped, went_on}
use Rattle.command_loop.proofs.files.run_controller.Goals as goal

pub returns-in-Err : goal.returns-in-Err
returns-in-Err g c =
    let did = c.read_states_file.ensures.read in
    stopped did.passes (rw (ap (λ (n : Numbers). n.states) c.parts.ensures.value, c.at.ensures) at c.in-Err.ensures.read.ends)

pub returns-in-Ok : goal.returns-in-Ok
returns-in-Ok g c =
    let kept = c.in-Ok.ensures.read in
    went_on kept.passes (rw (ap (λ (n : Numbers). n.states) c.parts.ensures.value, c.at.ensures) at kept.right) c.run_states.ensures

pub run_states-requires-clause-width : goal.run_states-requires-clause-width
run_states-requires-clause-width g c = c.in-Ok.ensures.width ∙ ap (λ (n : Numbers). n.states) c.parts.ensures.value
