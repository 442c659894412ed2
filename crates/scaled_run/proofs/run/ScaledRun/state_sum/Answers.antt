use Rattle.std.proofs.Common.{◌*◌, sym, ◌∙◌}
use Rattle.std.proofs.lemmas.List.{length-take-le}
use Rattle.enclosure.specs.Values.{pair_at}
use Rattle.qp_model.specs.problem.Parts.{design_of}
use Rattle.scaled_run.proofs.PlaceFacts.{start_to_last, end_to_last, bytes_to_last, in_order, last_ends}
use Rattle.scaled_run.proofs.RowFacts.{sum_lengths, sum_room, sum_value}
use Rattle.scaled_run.proofs.run.ScaledRun.state_sum.Goals as goal

pub unreachable-requires : goal.unreachable-requires
unreachable-requires c =
    let self = c.args.self.now in
    let no = c.in_default.ensures.room.1 (sum_room (design_of self.parts.now) (pair_at self.start.items) (pair_at self.plan.items) self.states.items c.deref.result.now c.args.row.now c.args.k
    c.deref.ensures.value c.requires.stage self.made.held c.requires.room) in
    cc no

pub returns : goal.returns
returns c =
    let self = c.args.self.now in
    c.in-Some.ensures.value ∙ sum_value (design_of self.parts.now) (pair_at self.start.items) (pair_at self.plan.items) self.states.items c.deref.result.now c.args.row.now c.args.k
    c.deref.ensures.value c.requires.stage self.made.held

pub overflow_mul-k : goal.overflow_mul-k
overflow_mul-k c = start_to_last c.args.self.now.parts.now c.args.self.now.made.ready.design c.args.k c.requires.stage

pub overflow_mul-k-2 : goal.overflow_mul-k-2
overflow_mul-k-2 c = start_to_last c.args.self.now.parts.now c.args.self.now.made.ready.design c.args.k c.requires.stage

pub overflow_add-k : goal.overflow_add-k
overflow_add-k c = end_to_last c.args.self.now.parts.now c.args.self.now.made.ready.design c.args.k c.requires.stage

pub offset_bounds-deref-k : goal.offset_bounds-deref-k
offset_bounds-deref-k c = bytes_to_last c.args.self.now.parts.now c.args.self.now.made.ready.design c.args.k c.requires.stage

pub slice_bounds-combine-end : goal.slice_bounds-combine-end
slice_bounds-combine-end c = sym (length-take-le c.args.self.now.parts.now.states c.args.row.now c.requires.row)

pub slice_bounds-combine-count : goal.slice_bounds-combine-count
slice_bounds-combine-count c = in_order (c.args.k * c.args.self.now.parts.now.states) c.args.self.now.parts.now.states

pub slice_bounds-combine-start : goal.slice_bounds-combine-start
slice_bounds-combine-start c = in_order (c.args.k * c.args.self.now.parts.now.states) c.args.self.now.parts.now.states

pub slice_bounds-combine-end-2 : goal.slice_bounds-combine-end-2
slice_bounds-combine-end-2 c =
    let self = c.args.self.now in
    last_ends self.states.items c.deref.result.now c.args.k self.parts.now.stages self.parts.now.states c.deref.ensures.value self.made.held.long c.requires.stage

pub combine-requires-clause-lengths : goal.combine-requires-clause-lengths
combine-requires-clause-lengths c =
    let self = c.args.self.now in
    sum_lengths (design_of self.parts.now) (pair_at self.start.items) (pair_at self.plan.items) self.states.items c.deref.result.now c.args.row.now c.args.k
    c.deref.ensures.value c.requires.stage self.made.held c.requires.row
