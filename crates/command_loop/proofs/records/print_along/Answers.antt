use Rattle.std.proofs.Common.{subst, Option}
use Rattle.mat_int.specs.Matrix.{Matrix}
use Rattle.qp_model.specs.problem.Parts.{design_of}
use Rattle.closed_loop.specs.Looping.{turn_size_by}
use Rattle.command_loop.specs.Loop.{course_by}
use Rattle.command_loop.specs.Printing.{LoopsDone}
use Rattle.command_loop.proofs.Looping.{nothing_done}
use Rattle.command_loop.proofs.records.print_along.Goals as goal

pub returns-in-Err : goal.returns-in-Err
returns-in-Err g c = nothing_done g.O.Sink _ _ _ _ _ _

pub returns-in-Ok : goal.returns-in-Ok
returns-in-Ok g c =
    let d = design_of c.args.design.now in
    let a = g.M.ControlMachine.looping c.args.machine.now in
    let did = c.print_records.ensures in
    subst (λ (v : Option Matrix). LoopsDone g.O.Sink (turn_size_by d a) a.controller (course_by d a v) c.args.turns c.args.states.now c.args.out.now c.print_records.new.out c.print_records.result) c.in-Ok.ensures
    (record { ends = did.ends; printed = did.printed; quiet = did.quiet; failed = did.failed; no_fewer = did.no_fewer })
