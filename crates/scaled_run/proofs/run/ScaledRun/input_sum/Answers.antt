use Rattle.std.proofs.Common.{◌*◌, ◌∙◌}
use Rattle.scaled_run.proofs.PlaceFacts.{input_start, input_end, input_bytes, row_end, row_bytes, in_order, part_ends}
use Rattle.scaled_run.proofs.RowFacts.{input_lengths, input_room, input_value}
use Rattle.scaled_run.proofs.run.ScaledRun.input_sum.Goals as goal

pub unreachable-requires : goal.unreachable-requires
unreachable-requires c =
    let self = c.args.self.now in
    let parts = self.parts.now in
    let no = c.in_default.ensures.room.1 (input_room self.plan.items c.deref.result.now c.args.row.now parts.states parts.inputs parts.stages c.args.k
    c.deref.ensures.value self.made.ready.plan c.requires.stage c.requires.room) in
    cc no

pub returns : goal.returns
returns c =
    let self = c.args.self.now in
    let parts = self.parts.now in
    c.in-Some.ensures.value ∙ input_value self.plan.items c.deref.result.now c.args.row.now parts.states parts.inputs parts.stages c.args.k
    c.deref.ensures.value self.made.ready.plan c.requires.stage

pub overflow_add-n : goal.overflow_add-n
overflow_add-n c = row_end c.args.self.now.parts.now c.args.self.now.made.ready.design

pub offset_bounds-row-n : goal.offset_bounds-row-n
offset_bounds-row-n c = row_bytes c.args.self.now.parts.now c.args.self.now.made.ready.design

pub slice_bounds-combine-count : goal.slice_bounds-combine-count
slice_bounds-combine-count c = in_order c.args.self.now.parts.now.states c.args.self.now.parts.now.inputs

pub slice_bounds-combine-start : goal.slice_bounds-combine-start
slice_bounds-combine-start c = in_order c.args.self.now.parts.now.states c.args.self.now.parts.now.inputs

pub slice_bounds-combine-end : goal.slice_bounds-combine-end
slice_bounds-combine-end c = c.requires.row

pub overflow_mul-k : goal.overflow_mul-k
overflow_mul-k c = input_start c.args.self.now.parts.now c.args.self.now.made.ready.design c.args.k c.requires.stage

pub overflow_mul-k-2 : goal.overflow_mul-k-2
overflow_mul-k-2 c = input_start c.args.self.now.parts.now c.args.self.now.made.ready.design c.args.k c.requires.stage

pub overflow_add-k : goal.overflow_add-k
overflow_add-k c = input_end c.args.self.now.parts.now c.args.self.now.made.ready.design c.args.k c.requires.stage

pub offset_bounds-deref-k : goal.offset_bounds-deref-k
offset_bounds-deref-k c = input_bytes c.args.self.now.parts.now c.args.self.now.made.ready.design c.args.k c.requires.stage

pub slice_bounds-combine-count-2 : goal.slice_bounds-combine-count-2
slice_bounds-combine-count-2 c = in_order (c.args.k * c.args.self.now.parts.now.inputs) c.args.self.now.parts.now.inputs

pub slice_bounds-combine-start-2 : goal.slice_bounds-combine-start-2
slice_bounds-combine-start-2 c = in_order (c.args.k * c.args.self.now.parts.now.inputs) c.args.self.now.parts.now.inputs

pub slice_bounds-combine-end-2 : goal.slice_bounds-combine-end-2
slice_bounds-combine-end-2 c =
    let self = c.args.self.now in
    part_ends self.plan.items c.deref.result.now c.args.k self.parts.now.stages self.parts.now.inputs c.deref.ensures.value self.made.ready.plan c.requires.stage

pub combine-requires-clause-lengths : goal.combine-requires-clause-lengths
combine-requires-clause-lengths c =
    let self = c.args.self.now in
    let parts = self.parts.now in
    input_lengths self.plan.items c.deref.result.now c.args.row.now parts.states parts.inputs parts.stages c.args.k
    c.deref.ensures.value self.made.ready.plan c.requires.stage c.requires.row
