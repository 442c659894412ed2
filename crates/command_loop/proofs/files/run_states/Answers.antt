use Rattle.std.proofs.Common.{Some, None, ap, refl, true, false}
use Rattle.qp_model.specs.problem.Parts.{design_of}
use Rattle.qp_model.specs.machine.Controller.{Numbers}
use Rattle.command_line.proofs.Following.{went_on, acted, printed}
use Rattle.command_loop.proofs.Answering.{loops_printed}
use Rattle.command_loop.proofs.files.run_states.Goals as goal

pub returns-in-Ok : goal.returns-in-Ok
returns-in-Ok g c =
    let kept = c.in-Ok.ensures in
    let did = c.print_loops.ensures in
    rw c.if-disturbed.true
    (went_on kept.passes (rw (ap (λ (n : Numbers). n.states) c.parts.ensures.value, c.at.ensures) at kept.right)
    (acted
    (printed tt
    (loops_printed (design_of c.args.design.now) c.args.controller.now (Some c.in-Ok.shifts) c.args.turns c.args.states.now c.print_loops.result g.O.Sink true c.args.out.now c.print_loops.new.out did)
    refl)))

pub returns-else-disturbed : goal.returns-else-disturbed
returns-else-disturbed g c =
    let did = c.print_loops-else-disturbed.ensures in
    rw c.if-disturbed.false
    (acted
    (printed tt
    (loops_printed (design_of c.args.design.now) c.args.controller.now None c.args.turns c.args.states.now c.print_loops-else-disturbed.result g.O.Sink false c.args.out.now c.print_loops-else-disturbed.new.out did)
    refl))
