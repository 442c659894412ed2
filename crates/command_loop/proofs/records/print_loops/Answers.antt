use Rattle.std.proofs.Common.{◌≡◌, ap, refl, subst}
use Rattle.qp_model.specs.problem.Parts.{design_of}
use Rattle.qp_model.specs.machine.Controller.{numbers}
use Rattle.qp_model.specs.machine.LoopSize.{turn_size}
use Rattle.qp_model.specs.machine.Successor.{IsFor}
use Rattle.closed_loop.specs.Looping.{looping_of_plain, looping_of_fast}
use Rattle.command_loop.specs.Loop.{Course}
use Rattle.command_loop.specs.Printing.{LoopsDone, AreShiftsFor}
use Rattle.command_loop.proofs.Courses.{plain_course, prepared, fast_prepared, ok_is}
use Rattle.command_loop.proofs.records.print_loops.Goals as goal

-- ---- the plain machine
pub returns-in-Plain : goal.returns-in-Plain
returns-in-Plain g c =
    let d = design_of c.args.design.now in
    let n = c.in-Plain.controller in
    let did = c.print_prepared.ensures (looping_of_plain n) (ok_is c.prepare-kernel.result (prepared n) (λ k. looping_of_plain k.controller ≡ looping_of_plain n) refl c.prepare-kernel.ensures) in
    rw c.in-Plain.is
    (subst (λ (l : Course). LoopsDone g.O.Sink (turn_size d n) n l c.args.turns c.args.states.now c.args.out.now c.print_prepared.new.out c.print_prepared.result) (plain_course d n c.args.shifts.now) did)

pub print_prepared-requires-clause-matched : goal.print_prepared-requires-clause-matched
print_prepared-requires-clause-matched g c =
    ok_is c.prepare-kernel.result (prepared c.in-Plain.controller) (λ k. IsFor k.controller (design_of c.args.design.now)) (rw c.in-Plain.is at c.requires.matched) c.prepare-kernel.ensures

pub print_prepared-requires-clause-width : goal.print_prepared-requires-clause-width
print_prepared-requires-clause-width g c =
    ok_is c.prepare-kernel.result (prepared c.in-Plain.controller) (λ k. c.args.states.now.cols ≡ k.controller.states) (rw c.in-Plain.is at c.requires.width) c.prepare-kernel.ensures

pub print_prepared-requires-clause-shifts : goal.print_prepared-requires-clause-shifts
print_prepared-requires-clause-shifts g c =
    ok_is c.prepare-kernel.result (prepared c.in-Plain.controller) (λ k. AreShiftsFor k.controller.states c.args.turns c.args.shifts.now) (rw c.in-Plain.is at c.requires.shifts) c.prepare-kernel.ensures

-- ---- the accelerated one
pub returns-in-Fast : goal.returns-in-Fast
returns-in-Fast g c =
    let n = c.in-Fast.controller in
    rw c.in-Fast.is
    (c.print_prepared-in-Fast.ensures (looping_of_fast n)
    (ok_is c.prepare-kernel-in-Fast.result (fast_prepared (numbers c.parts.result.now)) (λ k. looping_of_fast k.controller ≡ looping_of_fast n) (ap looping_of_fast c.parts.ensures.value) c.prepare-kernel-in-Fast.ensures))
