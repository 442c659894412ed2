use Rattle.std.proofs.Common.{rules, unsigned_abs, ◌∙◌}
use Rattle.std.specs.Int.{w128}
use mir.Val.{SFits}
use Rattle.std.proofs.lemmas.Int.{to_z-of_z}
use Rattle.scaled_run.proofs.ListFacts.{next_room, next_value, one_pushed, row_of_rows, same_lengths, all_held}
use Rattle.scaled_run.proofs.states.next_state.Goals as goal

pub unreachable-requires : goal.unreachable-requires
unreachable-requires c =
    let parts = c.args.parts.now in
    let no = c.in_default.ensures.room.1 (next_room parts.a parts.b c.loop-i.i c.deref-in-loop-i.result.now c.args.state.now c.args.input.now c.deref.result.now c.row.result.now c.row-in-loop-i.result.now
    parts.states parts.inputs (c.deref.ensures.value ∙ c.in_ok-coefficients.ensures) c.row.ensures.value c.row-in-loop-i.ensures.value (c.row.ensures.len ∙ c.requires.design.a.cols)
    (c.deref-in-loop-i.ensures.value ∙ c.in_ok-numbers.ensures) c.requires.state c.requires.input (c.requires.room c.loop-i.i c.loop-i-test.true)) in
    cc no

pub loop-i-preserved : goal.loop-i-preserved
loop-i-preserved c =
    let parts = c.args.parts.now in
    let f : SFits w128 parts.plant_den = search rules in
    one_pushed c.loop-i.out.items _ c.in-Some.entry c.loop-i.i _ c.in_ok-push.ensures.items
    (rw (to_z-of_z w128 _ f) at c.in-Some.ensures.value ∙
    next_value parts.a parts.b c.loop-i.i c.deref-in-loop-i.result.now c.args.state.now c.args.input.now c.deref.result.now c.row.result.now c.row-in-loop-i.result.now
    parts.states parts.inputs (c.deref.ensures.value ∙ c.in_ok-coefficients.ensures) c.row.ensures.value c.row-in-loop-i.ensures.value (c.row.ensures.len ∙ c.requires.design.a.cols)
    (c.deref-in-loop-i.ensures.value ∙ c.in_ok-numbers.ensures) c.requires.state c.requires.input (unsigned_abs parts.plant_den))
    c.loop-i.invariant

pub row-requires : goal.row-requires
row-requires c = row_of_rows c.loop-i.i c.args.parts.now.states _ c.loop-i-test.true c.requires.design.a.rows.0

pub row-requires-in-loop-i : goal.row-requires-in-loop-i
row-requires-in-loop-i c = row_of_rows c.loop-i.i c.args.parts.now.states _ c.loop-i-test.true c.requires.design.b.rows.0

pub combine-requires-clause-lengths : goal.combine-requires-clause-lengths
combine-requires-clause-lengths c =
    same_lengths c.deref.result.now c.row.result.now c.row-in-loop-i.result.now c.deref-in-loop-i.result.now c.args.state.now c.args.input.now c.args.parts.now.states c.args.parts.now.inputs
    (c.deref.ensures.value ∙ c.in_ok-coefficients.ensures) (c.deref-in-loop-i.ensures.value ∙ c.in_ok-numbers.ensures) (c.row.ensures.len ∙ c.requires.design.a.cols)
    (c.row-in-loop-i.ensures.len ∙ c.requires.design.b.cols) c.requires.state c.requires.input

pub returns : goal.returns
returns c = all_held c.loop-i.out.items c.loop-i.i c.args.parts.now.states (λ k. k) _ c.loop-i.auto.i-end c.loop-i-test.false c.loop-i.invariant
