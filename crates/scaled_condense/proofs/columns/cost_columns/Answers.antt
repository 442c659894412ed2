use Rattle.std.proofs.Common.{◌+◌, ◌*◌}
use Rattle.qp_model.specs.problem.Parts.{design_of}
use Rattle.qp_model.specs.problem.Runs.{counts}
use Rattle.scaled_run.specs.ScaledForm.{scaled_costs}
use Rattle.scaled_condense.proofs.ColumnFacts.{enclosures_zero, column_inside, all_columns, entries_fit, states_fit, width_fits, column_rows}
use Rattle.scaled_condense.proofs.columns.cost_columns.Goals as goal

pub loop-j-preserved : goal.loop-j-preserved
loop-j-preserved c =
    let p = c.args.parts.now in
    c.in_ok-put_column.ensures (counts (design_of p)) (p.stages * p.inputs + p.states + 1) (scaled_costs c.args.over (design_of p)) c.loop-j-test.true c.cost_column.ensures c.loop-j.invariant

pub loop-j-init : goal.loop-j-init
loop-j-init c =
    let p = c.args.parts.now in
    enclosures_zero c.in_ok-mat.mat.mid c.in_ok-mat.mat.rad _ (counts (design_of p)) (p.stages * p.inputs + p.states + 1) (scaled_costs c.args.over (design_of p))
    c.cost_count.ensures c.in_ok-mat.ensures.mid c.in_ok-mat.ensures.rad

pub put_column-requires-clause-rows : goal.put_column-requires-clause-rows
put_column-requires-clause-rows c =
    let p = c.args.parts.now in
    column_rows c.cost_column.result (λ v. v.items) c.loop-j.mat.mid c.loop-j.mat.rad (counts (design_of p)) (p.stages * p.inputs + p.states + 1) c.loop-j.j (scaled_costs c.args.over (design_of p)) _ c.cost_column.ensures c.loop-j.invariant

pub put_column-requires-clause-column : goal.put_column-requires-clause-column
put_column-requires-clause-column c =
    let p = c.args.parts.now in
    column_inside c.loop-j.mat.mid c.loop-j.mat.rad (counts (design_of p)) (p.stages * p.inputs + p.states + 1) c.loop-j.j c.loop-j.j (scaled_costs c.args.over (design_of p)) c.loop-j.invariant c.loop-j-test.true

pub returns : goal.returns
returns c =
    let p = c.args.parts.now in
    all_columns c.loop-j.mat.mid c.loop-j.mat.rad (counts (design_of p)) (p.stages * p.inputs + p.states + 1) c.loop-j.j (p.stages * p.inputs + p.states + 1) (scaled_costs c.args.over (design_of p)) c.loop-j.auto.j-end c.loop-j-test.false c.loop-j.invariant

pub overflow_mul-width : goal.overflow_mul-width
overflow_mul-width c = entries_fit c.args.parts.now c.requires.scale.design

pub overflow_add-width : goal.overflow_add-width
overflow_add-width c = states_fit c.args.parts.now c.requires.scale.design

pub overflow_add-width-2 : goal.overflow_add-width-2
overflow_add-width-2 c = width_fits c.args.parts.now c.requires.scale.design

pub cost_count-requires : goal.cost_count-requires
cost_count-requires c = c.requires.scale.design
