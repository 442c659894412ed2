use Rattle.std.proofs.Common.{rules, ◌*◌, ◌<◌, ◌≤◌, length, arith, ◌∙◌, refl}
use Rattle.std.specs.Int.{w128}
use mir.Val.{SFits}
use Rattle.std.proofs.lemmas.Bool.{lt-ltb, le-ltb}
use Rattle.std.proofs.lemmas.Int.{to_z-of_z}
use Rattle.qp_model.proofs.RowLaws.{remainder_inside}
use Rattle.condensed_form.proofs.stacked.number_at.Goals as goal

pub rows-count-requires : goal.rows-count-requires
rows-count-requires c = tt

pub nonzero_rem-i : goal.nonzero_rem-i
nonzero_rem-i c = omega (arith, remainder_inside c.args.i c.args.stages c.rows-count.result c.if-i-above.true)

pub at-requires-clause-row_in : goal.at-requires-clause-row_in
at-requires-clause-row_in c = omega (arith, remainder_inside c.args.i c.args.stages c.rows-count.result c.if-i-above.true, c.rows-count.ensures.count)

pub returns-then-i-above : goal.returns-then-i-above
returns-then-i-above c =
    let s : SFits w128 c.at.result = search rules in
    let below : c.args.i < c.args.stages * length c.args.stage_rows.now.rows = rw (← c.rows-count.ensures.count) c.if-i-above.true in
    to_z-of_z w128 _ s ∙ c.at.ensures ∙ rw (lt-ltb c.args.i (c.args.stages * length c.args.stage_rows.now.rows) below, c.rows-count.ensures.count) refl

pub returns-else-i-above : goal.returns-else-i-above
returns-else-i-above c =
    let s : SFits w128 c.at-else-i-above.result = search rules in
    let past : c.args.stages * length c.args.stage_rows.now.rows ≤ c.args.i = rw (← c.rows-count.ensures.count) c.if-i-above.false in
    to_z-of_z w128 _ s ∙ c.at-else-i-above.ensures ∙ rw (le-ltb c.args.i (c.args.stages * length c.args.stage_rows.now.rows) past, c.rows-count.ensures.count) refl
