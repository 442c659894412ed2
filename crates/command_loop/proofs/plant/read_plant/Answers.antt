use Rattle.std.proofs.Common.{inl, inr, Option, subst}
use Rattle.io_edge.specs.Faults.{Files}
use Rattle.qp_model.specs.problem.Parts.{design_of}
use Rattle.qp_model.specs.machine.Controller.{Numbers}
use Rattle.qp_model.specs.machine.Successor.{IsFor}
use Rattle.command_line.specs.Words.{word_of}
use Rattle.command_line.specs.Kind.{IsRead}
use Rattle.command_line.proofs.Results.{err_same}
use Rattle.command_line.proofs.Following.{ends_later, passed_twice}
use Rattle.command_files.specs.Reading.{any_controller_kind}
use Rattle.command_loop.specs.Plant.{IsMismatch}
use Rattle.command_loop.proofs.plant.read_plant.Goals as goal

pub returns-in_err-asked : goal.returns-in_err-asked
returns-in_err-asked g c =
    let did = rw c.at.ensures at c.in_err-asked.ensures in
    rw (err_same c.from_residual.result _ c.from_residual.ensures.1) (record { design = tt; controller = tt; matched = tt; ends = inl did.ends; passes = did.passes })

pub returns-in_err-controller : goal.returns-in_err-controller
returns-in_err-controller g c =
    let one = rw c.at.ensures at c.in_ok-asked.ensures in
    let did = rw c.at-2.ensures at c.in_err-controller.ensures in
    rw (err_same c.from_residual-in_err-controller.result _ c.from_residual-in_err-controller.ensures.1)
    (record { design = tt; controller = tt; matched = tt; ends = inr (c.in_ok-asked.asked, one.right, inl (ends_later c.args.words.now one.passes did.passes 2 any_controller_kind did.ends)); passes = passed_twice _ _ _ one.passes did.passes })

pub returns-in-Some : goal.returns-in-Some
returns-in-Some g c =
    let one = rw c.at.ensures at c.in_ok-asked.ensures in
    let two = rw c.at-2.ensures at c.in_ok-controller.ensures in
    let k = c.in_ok-controller.controller in
    let second = subst (λ (h : Option Files). IsRead any_controller_kind 2 h (word_of c.args.words.now 2) k) one.passes.held two.right in
    let differs = subst (λ (n : Numbers). IsMismatch (design_of c.in_ok-asked.asked.design) n c.in-Some.status) c.parts.ensures.value c.in-Some.ensures in
    record { design = tt; controller = tt; matched = tt; ends = inr (c.in_ok-asked.asked, one.right, inr (k, second, differs)); passes = passed_twice _ _ _ one.passes two.passes }

pub returns-in-None : goal.returns-in-None
returns-in-None g c =
    let one = rw c.at.ensures at c.in_ok-asked.ensures in
    let two = rw c.at-2.ensures at c.in_ok-controller.ensures in
    let k = c.in_ok-controller.controller in
    record {
      design = one.right;
      controller = subst (λ (h : Option Files). IsRead any_controller_kind 2 h (word_of c.args.words.now 2) k) one.passes.held two.right;
      matched = subst (λ (n : Numbers). IsFor n (design_of c.in_ok-asked.asked.design)) c.parts.ensures.value c.in-None.ensures;
      ends = tt;
      passes = passed_twice _ _ _ one.passes two.passes;
    }
