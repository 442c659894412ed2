use Rattle.std.proofs.Common.{◌*◌, refl}
use Rattle.qp_model.specs.problem.Parts.{design_of}
use Rattle.scaled_run.specs.ScaledForm.{scaled_linear}
use Rattle.scaled_condense.proofs.ColumnFacts.{enclosures_zero, column_inside, all_columns, entries_fit, column_rows}
use Rattle.scaled_condense.proofs.hessian.linear_numbers.Goals as goal

pub loop-i-preserved : goal.loop-i-preserved
loop-i-preserved c =
    let p = c.args.parts.now in
    c.in_ok-put_column.ensures (p.stages * p.inputs) p.states (scaled_linear c.args.over c.args.den (design_of p)) c.loop-i-test.true c.linear_column.ensures c.loop-i.invariant

pub loop-i-init : goal.loop-i-init
loop-i-init c =
    let p = c.args.parts.now in
    enclosures_zero c.in_ok-mat.mat.mid c.in_ok-mat.mat.rad _ (p.stages * p.inputs) p.states (scaled_linear c.args.over c.args.den (design_of p)) (refl) c.in_ok-mat.ensures.mid c.in_ok-mat.ensures.rad

pub put_column-requires-clause-rows : goal.put_column-requires-clause-rows
put_column-requires-clause-rows c =
    let p = c.args.parts.now in
    column_rows c.linear_column.result (λ v. v.items) c.loop-i.mat.mid c.loop-i.mat.rad (p.stages * p.inputs) p.states c.loop-i.i (scaled_linear c.args.over c.args.den (design_of p)) _ c.linear_column.ensures c.loop-i.invariant

pub put_column-requires-clause-column : goal.put_column-requires-clause-column
put_column-requires-clause-column c =
    let p = c.args.parts.now in
    column_inside c.loop-i.mat.mid c.loop-i.mat.rad (p.stages * p.inputs) p.states c.loop-i.i c.loop-i.i (scaled_linear c.args.over c.args.den (design_of p)) c.loop-i.invariant c.loop-i-test.true

pub returns : goal.returns
returns c =
    let p = c.args.parts.now in
    all_columns c.loop-i.mat.mid c.loop-i.mat.rad (p.stages * p.inputs) p.states c.loop-i.i p.states (scaled_linear c.args.over c.args.den (design_of p)) c.loop-i.auto.i-end c.loop-i-test.false c.loop-i.invariant

pub overflow_mul-count : goal.overflow_mul-count
overflow_mul-count c = entries_fit c.args.parts.now c.requires.scale.design
