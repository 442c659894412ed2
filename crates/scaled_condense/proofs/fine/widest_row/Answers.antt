use Rattle.std.proofs.Common.{◌*◌}
use Rattle.qp_model.specs.problem.Parts.{design_of}
use Rattle.qp_model.specs.form.FineForm.{hessian_row_radius}
use Rattle.qp_model.proofs.SizeFacts.{greatest_next}
use Rattle.scaled_condense.proofs.ColumnFacts.{entries_fit}
use Rattle.scaled_condense.proofs.RowSums.{all_rows}
use Rattle.scaled_condense.proofs.fine.widest_row.Goals as goal

pub row_radius-requires-clause-hessian : goal.row_radius-requires-clause-hessian
row_radius-requires-clause-hessian c = c.requires

pub row_radius-requires-clause-row : goal.row_radius-requires-clause-row
row_radius-requires-clause-row c = c.loop-i-test.true

pub overflow_mul-i-end : goal.overflow_mul-i-end
overflow_mul-i-end c = entries_fit c.args.parts.now c.requires.scale.design

pub loop-i-preserved : goal.loop-i-preserved
loop-i-preserved c =
    greatest_next c.loop-i.i (hessian_row_radius (design_of c.args.parts.now)) c.loop-i.most _ c.row_radius.result c.loop-i.invariant c.row_radius.ensures c.max-most.ensures

pub returns : goal.returns
returns c =
    let p = c.args.parts.now in
    all_rows c.loop-i.most c.loop-i.i (p.stages * p.inputs) (hessian_row_radius (design_of p)) c.loop-i.auto.i-end c.loop-i-test.false c.loop-i.invariant
