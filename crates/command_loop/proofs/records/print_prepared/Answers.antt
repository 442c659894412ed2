use Rattle.std.proofs.Common.{◌≡◌, subst}
use Rattle.qp_model.specs.problem.Parts.{design_of}
use Rattle.closed_loop.specs.Looping.{Looping, turn_size_by}
use Rattle.command_loop.specs.Loop.{course_by}
use Rattle.command_loop.specs.Printing.{LoopsDone}
use Rattle.command_loop.proofs.Looping.{nothing_done}
use Rattle.command_loop.proofs.records.print_prepared.Goals as goal

pub returns-in-Err : goal.returns-in-Err
returns-in-Err g c = λ l is. nothing_done g.O.Sink _ _ _ _ _ _

pub returns-in-Ok : goal.returns-in-Ok
returns-in-Ok g c = λ l is.
    let d = design_of c.args.design.now in
    let same : g.M.ControlMachine.looping c.in-Ok.machine ≡ l = rw c.in-Ok.is at is in
    subst (λ (a : Looping). LoopsDone g.O.Sink (turn_size_by d a) a.controller (course_by d a c.args.shifts.now) c.args.turns c.args.states.now c.args.out.now c.print_along.new.out c.print_along.result) same c.print_along.ensures
