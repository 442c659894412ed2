use Rattle.std.proofs.Common.{◌+◌, ◌*◌, refl, ◌∙◌}
use Rattle.enclosure.specs.Values.{pair_at}
use Rattle.qp_model.specs.problem.Parts.{design_of}
use Rattle.scaled_run.proofs.ListFacts.{flat_run, first_states, all_held}
use Rattle.scaled_run.proofs.StateFacts.{stage_part, input_part, next, states_room, next_states}
use Rattle.scaled_run.proofs.PlaceFacts.{state_start, state_end, state_bytes, input_start, input_end, input_bytes, in_order, part_ends}
use Rattle.scaled_run.proofs.run.ScaledRun.new.Goals as goal

pub loop-k-init : goal.loop-k-init
loop-k-init c =
    let d = design_of c.args.parts.now in
    first_states d (pair_at c.args.start.items) (pair_at c.args.plan.items) c.in_ok-states.states.items c.args.start.items
    (c.in_ok-states.ensures.items_if_clones_equal (λ x y h. h) ∙ c.deref.ensures.value) c.requires.start (λ i l. refl)

pub next_state-requires-clause-room : goal.next_state-requires-clause-room
next_state-requires-clause-room c =
    let p = c.args.parts.now in
    let d = design_of p in
    let state = stage_part d (pair_at c.args.start.items) (pair_at c.args.plan.items) c.loop-k.states.items c.deref-in-loop-k.result.now c.loop-k.k (c.loop-k.k + 1) c.deref-in-loop-k.ensures.value
    (next c.loop-k.k) c.loop-k.invariant in
    let input = input_part c.args.plan.items c.deref-in-loop-k-2.result.now p.stages p.inputs c.loop-k.k c.deref-in-loop-k-2.ensures.value c.requires.plan c.loop-k-test.true in
    states_room d (pair_at c.args.start.items) (pair_at c.args.plan.items) c.loop-k.k c.loop-k-test.true _ _ state input c.args.reach
    c.requires.near_states c.requires.near_plan c.requires.fits

pub loop-k-preserved : goal.loop-k-preserved
loop-k-preserved c =
    let p = c.args.parts.now in
    let d = design_of p in
    let state = stage_part d (pair_at c.args.start.items) (pair_at c.args.plan.items) c.loop-k.states.items c.deref-in-loop-k.result.now c.loop-k.k (c.loop-k.k + 1) c.deref-in-loop-k.ensures.value
    (next c.loop-k.k) c.loop-k.invariant in
    let input = input_part c.args.plan.items c.deref-in-loop-k-2.result.now p.stages p.inputs c.loop-k.k c.deref-in-loop-k-2.ensures.value c.requires.plan c.loop-k-test.true in
    next_states d (pair_at c.args.start.items) (pair_at c.args.plan.items) c.loop-k.k c.loop-k-test.true _ _ state input c.loop-k.states.items _ c.in_ok-next.next.items
    (rw c.deref-in-loop-k-3.ensures.value at c.in_ok-extend_from_slice.ensures.items) c.in_ok-next.ensures c.loop-k.invariant

pub overflow_mul-state : goal.overflow_mul-state
overflow_mul-state c = state_start c.args.parts.now c.requires.design c.loop-k.k c.loop-k-test.true

pub overflow_mul-state-in-loop-k : goal.overflow_mul-state-in-loop-k
overflow_mul-state-in-loop-k c = state_start c.args.parts.now c.requires.design c.loop-k.k c.loop-k-test.true

pub overflow_add-state : goal.overflow_add-state
overflow_add-state c = state_end c.args.parts.now c.requires.design c.loop-k.k c.loop-k-test.true

pub offset_bounds-deref-k : goal.offset_bounds-deref-k
offset_bounds-deref-k c = state_bytes c.args.parts.now c.requires.design c.loop-k.k c.loop-k-test.true

pub slice_bounds-state-count : goal.slice_bounds-state-count
slice_bounds-state-count c = in_order (c.loop-k.k * c.args.parts.now.states) c.args.parts.now.states

pub slice_bounds-state-start : goal.slice_bounds-state-start
slice_bounds-state-start c = in_order (c.loop-k.k * c.args.parts.now.states) c.args.parts.now.states

pub slice_bounds-state-end : goal.slice_bounds-state-end
slice_bounds-state-end c = part_ends c.loop-k.states.items c.deref-in-loop-k.result.now c.loop-k.k (c.loop-k.k + 1) c.args.parts.now.states c.deref-in-loop-k.ensures.value c.loop-k.invariant.long (next c.loop-k.k)

pub overflow_mul-k : goal.overflow_mul-k
overflow_mul-k c = input_start c.args.parts.now c.requires.design c.loop-k.k c.loop-k-test.true

pub overflow_mul-k-in-loop-k : goal.overflow_mul-k-in-loop-k
overflow_mul-k-in-loop-k c = input_start c.args.parts.now c.requires.design c.loop-k.k c.loop-k-test.true

pub overflow_add-k : goal.overflow_add-k
overflow_add-k c = input_end c.args.parts.now c.requires.design c.loop-k.k c.loop-k-test.true

pub offset_bounds-deref-k-in-loop-k : goal.offset_bounds-deref-k-in-loop-k
offset_bounds-deref-k-in-loop-k c = input_bytes c.args.parts.now c.requires.design c.loop-k.k c.loop-k-test.true

pub slice_bounds-next_state-count : goal.slice_bounds-next_state-count
slice_bounds-next_state-count c = in_order (c.loop-k.k * c.args.parts.now.inputs) c.args.parts.now.inputs

pub slice_bounds-next_state-start : goal.slice_bounds-next_state-start
slice_bounds-next_state-start c = in_order (c.loop-k.k * c.args.parts.now.inputs) c.args.parts.now.inputs

pub slice_bounds-next_state-end : goal.slice_bounds-next_state-end
slice_bounds-next_state-end c = part_ends c.args.plan.items c.deref-in-loop-k-2.result.now c.loop-k.k c.args.parts.now.stages c.args.parts.now.inputs c.deref-in-loop-k-2.ensures.value c.requires.plan c.loop-k-test.true

pub next_state-requires-clause-design : goal.next_state-requires-clause-design
next_state-requires-clause-design c = c.requires.design

pub next_state-requires-clause-state : goal.next_state-requires-clause-state
next_state-requires-clause-state c =
    let p = c.args.parts.now in
    (stage_part (design_of p) (pair_at c.args.start.items) (pair_at c.args.plan.items) c.loop-k.states.items c.deref-in-loop-k.result.now c.loop-k.k (c.loop-k.k + 1) c.deref-in-loop-k.ensures.value
    (next c.loop-k.k) c.loop-k.invariant).long

pub next_state-requires-clause-input : goal.next_state-requires-clause-input
next_state-requires-clause-input c =
    let p = c.args.parts.now in
    (input_part c.args.plan.items c.deref-in-loop-k-2.result.now p.stages p.inputs c.loop-k.k c.deref-in-loop-k-2.ensures.value c.requires.plan c.loop-k-test.true).long

pub invariant_of-result : goal.invariant_of-result
invariant_of-result c =
    let p = c.args.parts.now in
    record {
      made = record {
        ready = c.requires;
        held = all_held c.loop-k.states.items c.loop-k.k p.stages (λ k. (k + 1) * p.states) (flat_run (design_of p) (pair_at c.args.start.items) (pair_at c.args.plan.items)) c.loop-k.auto.k-end
            c.loop-k-test.false c.loop-k.invariant;
      };
    }
