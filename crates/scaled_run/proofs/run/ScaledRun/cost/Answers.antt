use Rattle.std.proofs.Common.{◌∙◌, length, le_refl}
use Rattle.scaled_run.proofs.RowFacts.{stage_cost_room, final_cost_room, stage_cost_value, final_cost_value}
use Rattle.qp_model.proofs.VersionLaws.{design_stages_le}
use Rattle.scaled_run.proofs.PlaceFacts.{stage_rows_fit, some_row, row_inside, next_stage, next_stage_fits, final_inside, row_long}
use Rattle.scaled_run.proofs.run.ScaledRun.cost.Goals as goal

pub returns-then-c-stage_rows : goal.returns-then-c-stage_rows
returns-then-c-stage_rows c =
    let self = c.args.self.now in
    c.state_sum.ensures ∙
    stage_cost_value self.parts.now self.reach self.start.items self.plan.items self.made.ready
    c.args.c c.rows-rows.result c.row.result.now c.rows-rows.ensures.count c.row.ensures.value c.if-c-stage_rows.true

pub returns-else-c-stage_rows : goal.returns-else-c-stage_rows
returns-else-c-stage_rows c =
    let self = c.args.self.now in
    c.state_sum-else-c-stage_rows.ensures ∙
    final_cost_value self.parts.now self.reach self.start.items self.plan.items self.made.ready
    c.args.c c.rows-rows.result c.row-else-c-stage_rows.result.now c.rows-rows.ensures.count c.row-else-c-stage_rows.ensures.value c.if-c-stage_rows.false

pub state_sum-requires-clause-room : goal.state_sum-requires-clause-room
state_sum-requires-clause-room c =
    let self = c.args.self.now in
    stage_cost_room self.parts.now self.reach self.start.items self.plan.items self.made.ready
    c.args.c c.rows-rows.result c.row.result.now c.rows-rows.ensures.count c.row.ensures.value c.if-c-stage_rows.true c.requires.row c.requires.fits

pub state_sum-requires-else-c-stage_rows-clause-room : goal.state_sum-requires-else-c-stage_rows-clause-room
state_sum-requires-else-c-stage_rows-clause-room c =
    let self = c.args.self.now in
    final_cost_room self.parts.now self.reach self.start.items self.plan.items self.made.ready
    c.args.c c.rows-rows.result c.row-else-c-stage_rows.result.now c.rows-rows.ensures.count c.row-else-c-stage_rows.ensures.value c.if-c-stage_rows.false c.requires.row c.requires.fits

pub overflow_mul-stage_rows : goal.overflow_mul-stage_rows
overflow_mul-stage_rows c =
    let p = c.args.self.now.parts.now in
    stage_rows_fit p.stages c.rows-rows.result _ (design_stages_le p c.args.self.now.made.ready.design) c.rows-rows.ensures.count c.args.self.now.made.ready.design.stage_cost.rows.1

pub nonzero_rem-c : goal.nonzero_rem-c
nonzero_rem-c c = some_row c.args.c c.args.self.now.parts.now.stages c.rows-rows.result c.if-c-stage_rows.true

pub nonzero_div-c : goal.nonzero_div-c
nonzero_div-c c = some_row c.args.c c.args.self.now.parts.now.stages c.rows-rows.result c.if-c-stage_rows.true

pub row-requires : goal.row-requires
row-requires c = row_inside c.args.c c.args.self.now.parts.now.stages c.rows-rows.result c.if-c-stage_rows.true _ c.rows-rows.ensures.count

pub overflow_add-c : goal.overflow_add-c
overflow_add-c c = next_stage_fits c.args.c c.args.self.now.parts.now.stages c.rows-rows.result c.if-c-stage_rows.true (design_stages_le c.args.self.now.parts.now c.args.self.now.made.ready.design)

pub state_sum-requires-clause-stage : goal.state_sum-requires-clause-stage
state_sum-requires-clause-stage c = next_stage c.args.c c.args.self.now.parts.now.stages c.rows-rows.result c.if-c-stage_rows.true

pub state_sum-requires-clause-row : goal.state_sum-requires-clause-row
state_sum-requires-clause-row c = row_long c.args.self.now.parts.now.states 2 _ _ c.row.ensures.len c.args.self.now.made.ready.design.stage_cost.cols

pub row-requires-else-c-stage_rows : goal.row-requires-else-c-stage_rows
row-requires-else-c-stage_rows c =
    let p = c.args.self.now.parts.now in
    final_inside c.args.c p.stages c.rows-rows.result (length p.stage_cost.rows) (length p.final_cost.rows) c.rows-rows.ensures.count c.if-c-stage_rows.false c.requires.row

pub state_sum-requires-else-c-stage_rows-clause-stage : goal.state_sum-requires-else-c-stage_rows-clause-stage
state_sum-requires-else-c-stage_rows-clause-stage c = le_refl _

pub state_sum-requires-else-c-stage_rows-clause-row : goal.state_sum-requires-else-c-stage_rows-clause-row
state_sum-requires-else-c-stage_rows-clause-row c = row_long c.args.self.now.parts.now.states 2 _ _ c.row-else-c-stage_rows.ensures.len c.args.self.now.made.ready.design.final_cost.cols
