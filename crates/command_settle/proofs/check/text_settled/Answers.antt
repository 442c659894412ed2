use Rattle.std.proofs.Common.{sym, ◌∙◌}
use Rattle.qp_model.specs.problem.Parts.{design_of}
use Rattle.settle_check.specs.Settling.{told_rows}
use Rattle.settle_check.specs.CertificateText.{certificate_numbers}
use Rattle.command_loop.specs.ControllerFile.AnyText.{any_numbers}
use Rattle.command_settle.specs.Settle.{told_box, told_costs}
use Rattle.command_settle.proofs.BoxLines.{text_same}
use Rattle.command_settle.proofs.check.text_settled.Goals as goal

pub settled_text-text-requires : goal.settled_text-text-requires
settled_text-text-requires c = record {
  high = c.in_ok-settled.ensures.rest.high.long ∙ sym c.in_ok-settled.ensures.rest.low.long;
  costs = c.in_ok-settled.ensures.costs.high.long ∙ sym c.in_ok-settled.ensures.costs.low.long;
}

pub returns-clause-text : goal.returns-clause-text
returns-clause-text c =
    let d = design_of c.args.design.now in
    let f = certificate_numbers c.args.certificate.now in
    text_same f.turns d.states f.after (told_rows d f.after) (told_box d (any_numbers c.args.controller.now) f c.args.range.now) (told_costs d (any_numbers c.args.controller.now) f c.args.range.now) c.in_ok-settled.settled
    c.in_ok-text.field-0.items c.in_ok-settled.ensures.rest c.in_ok-settled.ensures.costs c.in_ok-text.ensures
