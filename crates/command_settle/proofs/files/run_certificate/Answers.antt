use Rattle.std.proofs.Common.{◌≡◌, ◌∙◌, ap, refl, false}
use Rattle.qp_model.specs.problem.Parts.{design_of}
use Rattle.qp_model.specs.machine.Controller.{Numbers}
use Rattle.settle_check.specs.CertificateText.{certificate_numbers}
use Rattle.command_line.proofs.Following.{acted, printed}
use Rattle.command_loop.specs.ControllerFile.AnyText.{any_numbers}
use Rattle.command_settle.specs.Disturbances.{no_disturbances}
use Rattle.command_settle.proofs.Answering.{settled_printed}
use Rattle.command_settle.proofs.files.run_certificate.Goals as goal

-- there are no disturbances
pub returns-in-Ok-zero : goal.returns-in-Ok-zero
returns-in-Ok-zero g c =
    let n = any_numbers c.args.controller.now in
    let did = c.print_settled-in-Ok-zero.ensures in
    let none : c.in-Ok-zero.range ≡ no_disturbances n.states = c.in-Ok-zero.ensures ∙ ap (λ (k : Numbers). no_disturbances k.states) c.parts.ensures.value in
    rw c.if-disturbed.false
    (acted
    (printed tt
    (settled_printed (design_of c.args.design.now) c.args.controller.now (certificate_numbers c.args.certificate.now) (no_disturbances n.states) c.print_settled-in-Ok-zero.result g.O.Sink false c.args.out.now
    c.print_settled-in-Ok-zero.new.out (rw none at did.ends) (rw none at did.printed) did.quiet did.failed did.no_fewer)
    refl))
