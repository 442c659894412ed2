use Rattle.qp_model.specs.problem.Parts.{design_of}
use Rattle.qp_model.specs.machine.Controller.{numbers}
use Rattle.settle_check.specs.Still.{box_of}
use Rattle.settle_check.specs.Certificates.{certificate_of}
use Rattle.settle_check.proofs.CountedFacts.{positive}
use Rattle.settle_check.proofs.SettleFacts.{promised}
use Rattle.settle_check.proofs.FaultFacts.{first, right}
use Rattle.settle_check.proofs.settle.check_settling.Goals as goal

pub returns-clause-settled : goal.returns-clause-settled
returns-clause-settled c =
    promised c.check_loop.result (design_of c.args.parts.now) (numbers c.args.c.now) (box_of c.args.shift_low.now c.args.shift_high.now) (certificate_of c.args.certificate.now)
    (record { plant = positive c.args.parts.now.plant_den c.requires.design.plant_den; sized = c.requires.sized; sizes = c.requires.matched }) c.requires.inside c.requires.certificate.some c.check_loop.ensures.passes

pub returns-clause-right : goal.returns-clause-right
returns-clause-right c =
    right (design_of c.args.parts.now) (numbers c.args.c.now) (box_of c.args.shift_low.now c.args.shift_high.now) (certificate_of c.args.certificate.now) c.check_loop.result c.check_loop.ensures.fault

pub returns-clause-first : goal.returns-clause-first
returns-clause-first c = λ told.
    first (design_of c.args.parts.now) (numbers c.args.c.now) (box_of c.args.shift_low.now c.args.shift_high.now) (certificate_of c.args.certificate.now) c.check_loop.result told c.check_loop.ensures.passes
    c.check_loop.ensures.fault
