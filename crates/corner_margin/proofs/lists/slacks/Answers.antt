use Rattle.std.proofs.Common.{pos, ◌-ℤ◌, get_or, rules, ap, ◌∙◌}
use Rattle.std.specs.Int.{w128}
use mir.Val.{SFits}
use Rattle.std.proofs.lemmas.Int.{to_z-of_z}
use Rattle.integer_algebra.specs.Sums.{at}
use Rattle.frac_scaled.specs.Enclosures.{Enclosure}
use Rattle.enclosure.specs.Values.{pair_at}
use Rattle.condensed_form.proofs.Pushes.{pushed}
use Rattle.corner_margin.proofs.ListFacts.{element_is, slack_room}
use Rattle.corner_margin.proofs.lists.slacks.Goals as goal

pub slack-requires : goal.slack-requires
slack-requires c =
    let f : SFits w128 (get_or c.args.bounds.now c.loop-i.i (pos 0)) = search rules in
    let x = element_is c.args.values.now c.loop-i.i c.index-values-i.result c.index-values-i.is (rw c.requires.same c.loop-i-test.true) in
    slack_room (at c.args.bounds.now c.loop-i.i) _ _ (pair_at c.args.values.now c.loop-i.i) (to_z-of_z w128 _ f) x (c.requires.fits c.loop-i.i c.loop-i-test.true)

pub loop-i-preserved : goal.loop-i-preserved
loop-i-preserved c =
    let f : SFits w128 (get_or c.args.bounds.now c.loop-i.i (pos 0)) = search rules in
    let s : SFits w128 c.slack.result = search rules in
    let x = element_is c.args.values.now c.loop-i.i c.index-values-i.result c.index-values-i.is (rw c.requires.same c.loop-i-test.true) in
    pushed _ _ _ c.loop-i.i (λ i. at c.args.bounds.now i -ℤ (pair_at c.args.values.now i).mid -ℤ (pair_at c.args.values.now i).rad) c.in_ok-push.ensures.items
    (to_z-of_z w128 _ s ∙ (rw (to_z-of_z w128 _ f) at c.slack.ensures) ∙ ap (λ (e : Enclosure). at c.args.bounds.now c.loop-i.i -ℤ e.mid -ℤ e.rad) x)
    c.loop-i.invariant
