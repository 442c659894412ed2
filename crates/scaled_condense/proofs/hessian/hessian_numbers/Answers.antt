use Rattle.std.proofs.Common.{◌*◌, refl}
use Rattle.qp_model.specs.problem.Parts.{design_of}
use Rattle.scaled_run.specs.ScaledForm.{scaled_hessian}
use Rattle.scaled_condense.proofs.ColumnFacts.{enclosures_zero, column_inside, all_columns, entries_fit, column_rows}
use Rattle.scaled_condense.proofs.hessian.hessian_numbers.Goals as goal

pub loop-j-preserved : goal.loop-j-preserved
loop-j-preserved c =
    let p = c.args.parts.now in
    c.in_ok-put_column.ensures (p.stages * p.inputs) (p.stages * p.inputs) (scaled_hessian c.args.over c.args.den (design_of p)) c.loop-j-test.true c.hessian_column.ensures c.loop-j.invariant

pub loop-j-init : goal.loop-j-init
loop-j-init c =
    let p = c.args.parts.now in
    enclosures_zero c.in_ok-mat.mat.mid c.in_ok-mat.mat.rad _ (p.stages * p.inputs) (p.stages * p.inputs) (scaled_hessian c.args.over c.args.den (design_of p)) (refl) c.in_ok-mat.ensures.mid c.in_ok-mat.ensures.rad

pub put_column-requires-clause-rows : goal.put_column-requires-clause-rows
put_column-requires-clause-rows c =
    let p = c.args.parts.now in
    column_rows c.hessian_column.result (λ v. v.items) c.loop-j.mat.mid c.loop-j.mat.rad (p.stages * p.inputs) (p.stages * p.inputs) c.loop-j.j (scaled_hessian c.args.over c.args.den (design_of p)) _ c.hessian_column.ensures c.loop-j.invariant

pub put_column-requires-clause-column : goal.put_column-requires-clause-column
put_column-requires-clause-column c =
    let p = c.args.parts.now in
    column_inside c.loop-j.mat.mid c.loop-j.mat.rad (p.stages * p.inputs) (p.stages * p.inputs) c.loop-j.j c.loop-j.j (scaled_hessian c.args.over c.args.den (design_of p)) c.loop-j.invariant c.loop-j-test.true

pub returns : goal.returns
returns c =
    let p = c.args.parts.now in
    all_columns c.loop-j.mat.mid c.loop-j.mat.rad (p.stages * p.inputs) (p.stages * p.inputs) c.loop-j.j (p.stages * p.inputs) (scaled_hessian c.args.over c.args.den (design_of p)) c.loop-j.auto.j-end c.loop-j-test.false c.loop-j.invariant

pub overflow_mul-count : goal.overflow_mul-count
overflow_mul-count c = entries_fit c.args.parts.now c.requires.scale.design
