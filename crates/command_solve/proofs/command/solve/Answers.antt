use Rattle.std.proofs.Common.{◌≡◌, ◌∙◌, refl, sym, ap}
use Rattle.qp_model.specs.machine.Controller.{Numbers}
use Rattle.plan_lines.specs.ControllerFile.AnyText.{any_numbers}
use Rattle.command_line.proofs.Following.{follows, stopped, went_on, acted, printed}
use Rattle.plan_lines.specs.Making.{any_controller}
use Rattle.plan_lines.specs.declared.any_kernel.AnyKernel.{AnyKernel}
use Rattle.plan_lines.proofs.LineByLine.{ok_both}
use Rattle.command_solve.specs.Deeds.{solve_work}
use Rattle.command_solve.proofs.Solving.{solve_sound, solve_ended}
use Rattle.command_solve.proofs.command.solve.Goals as goal

-- the controller's file ends it
pub returns-in-Err : goal.returns-in-Err
returns-in-Err g c =
    let did = c.read_any_controller_file.ensures in
    follows solve_work solve_sound (stopped did.passes (rw c.at.ensures at c.in-Err.ensures.ends))

-- the controller is right, and the states' file ends it
pub returns : goal.returns
returns g c =
    let kept = c.in-Ok.ensures in
    let did = c.read_states_file.ensures.read in
    follows solve_work solve_sound
    (went_on kept.passes (rw c.at.ensures at kept.right)
    (stopped did.passes (rw (ap (λ (n : Numbers). n.states) c.parts.ensures.value, c.at-2.ensures) at c.in-Err-read_states_file.ensures.read.ends)))

-- the states are right, too
pub returns-in-Ok-read_states_file : goal.returns-in-Ok-read_states_file
returns-in-Ok-read_states_file g c =
    let k = c.in-Ok.controller in
    let m = c.in-Ok-read_states_file.states in
    let kept = c.in-Ok.ensures in
    let did = c.read_states_file.ensures.read in
    follows solve_work solve_sound
    (went_on kept.passes (rw c.at.ensures at kept.right)
    (went_on did.passes (rw (ap (λ (n : Numbers). n.states) c.parts.ensures.value, c.at-2.ensures) at c.in-Ok-read_states_file.ensures.read.right)
    (acted (printed tt (solve_ended k m g.O.Sink c.args.out.now c.print_prepared.new.out c.print_prepared.result (c.print_prepared.ensures k c.kernel_of.ensures)) refl))))

-- and as wide as its
pub print_prepared-requires-clause-size : goal.print_prepared-requires-clause-size
print_prepared-requires-clause-size g c =
    let Is : AnyKernel → Type 0 = λ k. any_controller k ≡ c.in-Ok.controller in
    ok_both c.kernel_of.result Is Is (λ k. c.in-Ok-read_states_file.states.cols ≡ (any_numbers (any_controller k)).states)
    (λ k is _. c.in-Ok-read_states_file.ensures.width ∙ ap (λ (n : Numbers). n.states) (c.parts.ensures.value ∙ ap any_numbers (sym is))) c.kernel_of.ensures c.kernel_of.ensures
