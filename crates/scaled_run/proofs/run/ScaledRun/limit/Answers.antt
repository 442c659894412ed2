use Rattle.std.proofs.Common.{◌∙◌, length, le_refl}
use Rattle.scaled_run.proofs.RowFacts.{stage_narrow, final_limit_room, stage_limit_value, final_limit_value}
use Rattle.qp_model.proofs.VersionLaws.{design_stages_le}
use Rattle.scaled_run.proofs.PlaceFacts.{stage_rows_fit, some_row, row_inside, its_stage, final_inside, row_long}
use Rattle.scaled_run.proofs.run.ScaledRun.limit.Goals as goal

pub returns-then-i-stage_rows : goal.returns-then-i-stage_rows
returns-then-i-stage_rows c =
    let self = c.args.self.now in
    c.stage_limit.ensures ∙
    stage_limit_value self.parts.now self.reach self.start.items self.plan.items self.made.ready
    c.args.i c.rows-limits.result c.row.result.now c.rows-limits.ensures.count c.row.ensures.value c.if-i-stage_rows.true

pub returns-else-i-stage_rows : goal.returns-else-i-stage_rows
returns-else-i-stage_rows c =
    let self = c.args.self.now in
    c.state_sum.ensures ∙
    final_limit_value self.parts.now self.reach self.start.items self.plan.items self.made.ready
    c.args.i c.rows-limits.result c.row-else-i-stage_rows.result.now c.rows-limits.ensures.count c.row-else-i-stage_rows.ensures.value c.if-i-stage_rows.false

pub stage_limit-requires-clause-narrow : goal.stage_limit-requires-clause-narrow
stage_limit-requires-clause-narrow c =
    let self = c.args.self.now in
    stage_narrow self.parts.now self.reach self.start.items self.plan.items self.made.ready
    c.args.i c.rows-limits.result c.row.result.now c.rows-limits.ensures.count c.row.ensures.value c.if-i-stage_rows.true

pub state_sum-requires-clause-room : goal.state_sum-requires-clause-room
state_sum-requires-clause-room c =
    let self = c.args.self.now in
    final_limit_room self.parts.now self.reach self.start.items self.plan.items self.made.ready
    c.args.i c.rows-limits.result c.row-else-i-stage_rows.result.now c.rows-limits.ensures.count c.row-else-i-stage_rows.ensures.value c.if-i-stage_rows.false c.requires.row c.requires.fits

pub overflow_mul-stage_rows : goal.overflow_mul-stage_rows
overflow_mul-stage_rows c =
    let p = c.args.self.now.parts.now in
    stage_rows_fit p.stages c.rows-limits.result _ (design_stages_le p c.args.self.now.made.ready.design) c.rows-limits.ensures.count c.args.self.now.made.ready.design.stage_rows.rows.1

pub nonzero_rem-i : goal.nonzero_rem-i
nonzero_rem-i c = some_row c.args.i c.args.self.now.parts.now.stages c.rows-limits.result c.if-i-stage_rows.true

pub nonzero_div-i : goal.nonzero_div-i
nonzero_div-i c = some_row c.args.i c.args.self.now.parts.now.stages c.rows-limits.result c.if-i-stage_rows.true

pub row-requires : goal.row-requires
row-requires c = row_inside c.args.i c.args.self.now.parts.now.stages c.rows-limits.result c.if-i-stage_rows.true _ c.rows-limits.ensures.count

pub stage_limit-requires-clause-stage : goal.stage_limit-requires-clause-stage
stage_limit-requires-clause-stage c = its_stage c.args.i c.args.self.now.parts.now.stages c.rows-limits.result c.if-i-stage_rows.true

pub stage_limit-requires-clause-row : goal.stage_limit-requires-clause-row
stage_limit-requires-clause-row c = c.row.ensures.len ∙ c.args.self.now.made.ready.design.stage_rows.cols

pub stage_limit-requires-clause-fits : goal.stage_limit-requires-clause-fits
stage_limit-requires-clause-fits c = c.requires.fits

pub row-requires-else-i-stage_rows : goal.row-requires-else-i-stage_rows
row-requires-else-i-stage_rows c =
    let p = c.args.self.now.parts.now in
    final_inside c.args.i p.stages c.rows-limits.result (length p.stage_rows.rows) (length p.final_rows.rows) c.rows-limits.ensures.count c.if-i-stage_rows.false c.requires.row

pub state_sum-requires-clause-stage : goal.state_sum-requires-clause-stage
state_sum-requires-clause-stage c = le_refl _

pub state_sum-requires-clause-row : goal.state_sum-requires-clause-row
state_sum-requires-clause-row c = row_long c.args.self.now.parts.now.states 1 _ _ c.row-else-i-stage_rows.ensures.len c.args.self.now.made.ready.design.final_rows.cols
