use Rattle.integer_algebra.specs.Sums.{none}
use Rattle.qp_model.specs.problem.Design.{rows}
use Rattle.qp_model.specs.problem.Parts.{design_of}
use Rattle.qp_model.specs.problem.Runs.{unit}
use Rattle.scaled_run.specs.ScaledForm.{scaled_by_state}
use Rattle.scaled_condense.proofs.ColumnFacts.{enclosures_zero, column_inside, all_columns, column_rows, limits_fit}
use Rattle.scaled_condense.proofs.columns.state_columns.Goals as goal

pub limits_of-requires : goal.limits_of-requires
limits_of-requires c = limits_fit c.args.over c.args.reach c.run_of_state.result (λ r. r.parts.now) (λ r. r.reach) (λ r. r.start.items) (λ r. r.plan.items) c.args.parts.now (unit c.loop-j.j) none c.requires.fits c.run_of_state.ensures

pub loop-j-preserved : goal.loop-j-preserved
loop-j-preserved c =
    let p = c.args.parts.now in
    c.in_ok-put_column.ensures (rows (design_of p)) p.states (scaled_by_state c.args.over (design_of p)) c.loop-j-test.true (c.limits_of.ensures c.args.over c.args.reach p (unit c.loop-j.j) none c.run_of_state.ensures) c.loop-j.invariant

pub loop-j-init : goal.loop-j-init
loop-j-init c =
    let p = c.args.parts.now in
    enclosures_zero c.in_ok-mat.mat.mid c.in_ok-mat.mat.rad _ (rows (design_of p)) p.states (scaled_by_state c.args.over (design_of p))
    c.limit_count.ensures c.in_ok-mat.ensures.mid c.in_ok-mat.ensures.rad

pub put_column-requires-clause-rows : goal.put_column-requires-clause-rows
put_column-requires-clause-rows c =
    let p = c.args.parts.now in
    column_rows c.limits_of.result (λ v. v.items) c.loop-j.mat.mid c.loop-j.mat.rad (rows (design_of p)) p.states c.loop-j.j (scaled_by_state c.args.over (design_of p)) _ (c.limits_of.ensures c.args.over c.args.reach p (unit c.loop-j.j) none c.run_of_state.ensures) c.loop-j.invariant

pub put_column-requires-clause-column : goal.put_column-requires-clause-column
put_column-requires-clause-column c =
    let p = c.args.parts.now in
    column_inside c.loop-j.mat.mid c.loop-j.mat.rad (rows (design_of p)) p.states c.loop-j.j c.loop-j.j (scaled_by_state c.args.over (design_of p)) c.loop-j.invariant c.loop-j-test.true

pub returns : goal.returns
returns c =
    let p = c.args.parts.now in
    all_columns c.loop-j.mat.mid c.loop-j.mat.rad (rows (design_of p)) p.states c.loop-j.j p.states (scaled_by_state c.args.over (design_of p)) c.loop-j.auto.j-end c.loop-j-test.false c.loop-j.invariant

pub limit_count-requires : goal.limit_count-requires
limit_count-requires c = c.requires.scale.design
