use Rattle.std.proofs.Common.{ℤ, pos, ◌+ℤ◌, ◌-ℤ◌, get_or, rules, ap₂, ◌∙◌}
use Rattle.std.specs.Int.{w128}
use mir.Val.{SFits}
use Rattle.std.proofs.lemmas.Int.{to_z-of_z}
use Rattle.integer_algebra.specs.Bounds.{absolute}
use Rattle.integer_algebra.specs.Sums.{at}
use Rattle.frac_scaled.specs.Enclosures.{Enclosure}
use Rattle.enclosure.specs.Values.{pair_at}
use Rattle.condensed_form.proofs.Pushes.{pushed}
use Rattle.corner_margin.proofs.ListFacts.{element_is, gap_room}
use Rattle.corner_margin.proofs.lists.gaps.Goals as goal

pub loop-i-preserved : goal.loop-i-preserved
loop-i-preserved c =
    let f : SFits w128 (get_or c.args.targets.now c.loop-i.i (pos 0)) = search rules in
    let s : SFits w128 c.gap.result = search rules in
    let x = element_is c.args.values.now c.loop-i.i c.index-values-i.result c.index-values-i.is (rw c.requires.same c.loop-i-test.true) in
    pushed _ _ _ c.loop-i.i (λ i. absolute ((pair_at c.args.values.now i).mid -ℤ at c.args.targets.now i) +ℤ (pair_at c.args.values.now i).rad) c.in_ok-push.ensures.items
    (to_z-of_z w128 _ s ∙ c.gap.ensures ∙ ap₂ (λ (e : Enclosure) (t : ℤ). absolute (e.mid -ℤ t) +ℤ e.rad) x (to_z-of_z w128 _ f))
    c.loop-i.invariant

pub gap-requires : goal.gap-requires
gap-requires c =
    let f : SFits w128 (get_or c.args.targets.now c.loop-i.i (pos 0)) = search rules in
    let x = element_is c.args.values.now c.loop-i.i c.index-values-i.result c.index-values-i.is (rw c.requires.same c.loop-i-test.true) in
    gap_room (at c.args.targets.now c.loop-i.i) _ _ (pair_at c.args.values.now c.loop-i.i) (to_z-of_z w128 _ f) x (c.requires.fits c.loop-i.i c.loop-i-test.true)
