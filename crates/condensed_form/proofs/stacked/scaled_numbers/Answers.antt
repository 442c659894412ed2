use Rattle.std.proofs.Common.{◌≡◌, ◌*◌, ◌+◌, ◌≤◌, ℤ, ◌*ℤ◌, unsigned_abs, length, arith, ap, ◌∙◌, rules, refl}
use Rattle.std.specs.Int.{w128}
use mir.Val.{SFits}
use Rattle.std.proofs.lemmas.Int.{to_z-of_z}
use Rattle.condensed_form.specs.Lists.{stacked}
use Rattle.condensed_form.proofs.Rooms.{read}
use Rattle.condensed_form.proofs.Pushes.{pushed, holds_to, no_entries}
use Rattle.condensed_form.proofs.StageFacts.{lifted_fits, lifted}
use Rattle.condensed_form.proofs.stacked.scaled_numbers.Goals as goal

pub overflow_mul-scale : goal.overflow_mul-scale
overflow_mul-scale c =
    let a = c.args in
    let s : SFits w128 c.number_at.result = search rules in
    let small : unsigned_abs c.number_at.result ≤ unsigned_abs (stacked a.stages a.stage_rows.now a.j a.final_rows.now a.k c.loop-i.i) = rw c.number_at.ensures (omega arith) in
    lifted_fits a.scale c.number_at.result _ c.ranges.scale s small (c.requires.fits c.loop-i.i (rw c.count_of-i-end.ensures at c.loop-i-test.true))

pub loop-i-preserved : goal.loop-i-preserved
loop-i-preserved c =
    let a = c.args in
    let s : SFits w128 c.number_at.result = search rules in
    let small : unsigned_abs c.number_at.result ≤ unsigned_abs (stacked a.stages a.stage_rows.now a.j a.final_rows.now a.k c.loop-i.i) = rw c.number_at.ensures (omega arith) in
    pushed _ _ _ c.loop-i.i (λ i. read a.scale *ℤ stacked a.stages a.stage_rows.now a.j a.final_rows.now a.k i) c.in_ok-push.ensures.items
    (lifted a.scale c.number_at.result _ c.ranges.scale s small (c.requires.fits c.loop-i.i (rw c.count_of-i-end.ensures at c.loop-i-test.true)) ∙ rw (to_z-of_z w128 _ c.ranges.scale, c.number_at.ensures) refl)
    c.loop-i.invariant

pub loop-i-init : goal.loop-i-init
loop-i-init c = no_entries _ _ c.new-out.ensures.items

pub count_of-i-end-requires : goal.count_of-i-end-requires
count_of-i-end-requires c = c.requires.count

pub number_at-requires-clause-count : goal.number_at-requires-clause-count
number_at-requires-clause-count c = c.requires.count

pub number_at-requires-clause-stage : goal.number_at-requires-clause-stage
number_at-requires-clause-stage c = c.requires.stage

pub number_at-requires-clause-last : goal.number_at-requires-clause-last
number_at-requires-clause-last c = c.requires.last

pub number_at-requires-clause-row : goal.number_at-requires-clause-row
number_at-requires-clause-row c = rw c.count_of-i-end.ensures at c.loop-i-test.true

pub returns : goal.returns
returns c =
    let a = c.args in
    let all : c.loop-i.i ≡ a.stages * length a.stage_rows.now.rows + length a.final_rows.now.rows = omega (arith, c.loop-i-test.false, c.count_of-i-end.ensures, c.loop-i.auto.i-end) in
    holds_to _ _ _ (λ i. read a.scale *ℤ stacked a.stages a.stage_rows.now a.j a.final_rows.now a.k i) (λ i. a.scale *ℤ stacked a.stages a.stage_rows.now a.j a.final_rows.now a.k i)
    c.loop-i.invariant all (λ i l. ap (λ (z : ℤ). z *ℤ stacked a.stages a.stage_rows.now a.j a.final_rows.now a.k i) (to_z-of_z w128 _ c.ranges.scale))
