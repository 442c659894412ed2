use Rattle.std.proofs.Common.{◌+◌, ◌*◌}
use Rattle.qp_model.specs.problem.Parts.{design_of}
use Rattle.qp_model.specs.problem.Runs.{counts, Holds}
use Rattle.condensed_form.specs.Costs.{weight_of}
use Rattle.scaled_condense.proofs.ProductFacts.{weights_signed, products_hold, products_near}
use Rattle.scaled_condense.proofs.products.weighed_products.Goals as goal

pub gram_over-requires-clause-signs : goal.gram_over-requires-clause-signs
gram_over-requires-clause-signs c = weights_signed c.args.parts.now c.requires.scale.design c.deref.result.now (rw c.deref.ensures.value c.in_ok-weights.ensures)

pub returns-in-Ok : goal.returns-in-Ok
returns-in-Ok c =
    let p = c.args.parts.now in
    let h : Holds c.deref.result.now (counts (design_of p)) (weight_of (design_of p)) = rw c.deref.ensures.value c.in_ok-weights.ensures in
    products_hold p c.args.over c.args.den c.args.columns.now.mid c.args.columns.now.rad c.deref.result.now (p.stages * p.inputs + p.states + 1) c.requires.columns h
    c.in-Ok.products.mid c.in-Ok.products.rad c.in-Ok.ensures.value

pub unreachable-requires : goal.unreachable-requires
unreachable-requires c =
    let p = c.args.parts.now in
    let h : Holds c.deref.result.now (counts (design_of p)) (weight_of (design_of p)) = rw c.deref.ensures.value c.in_ok-weights.ensures in
    products_near p c.args.over c.args.den c.args.columns.now.mid c.args.columns.now.rad c.deref.result.now (p.stages * p.inputs + p.states + 1) c.requires.columns h
    c.args.reach c.requires.scale c.requires.area (c.gram_over.ensures.wide (rw c.in-Err-Wide.field-0-is at c.in-Err-Wide.is))
