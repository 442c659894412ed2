use Rattle.std.proofs.Common.{◌≡◌, ◌≤◌, ◌^◌, pos, ◌*ℤ◌, ◌≤ℤ◌, unsigned_abs, rules, arith, ap, sym, subst, refl, ◌∙◌}
use Rattle.std.specs.Int.{w128}
use mir.Val.{SFits}
use Rattle.std.proofs.lemmas.Int.{ints, to_z-of_z}
use Rattle.frac_scaled.specs.Enclosures.{Enclosure, magnitude}
use Rattle.enclosure.specs.Values.{pair_at}
use Rattle.enclosure.proofs.SumLaws.{radius_nonneg}
use Rattle.condensed_form.proofs.Rooms.{read}
use Rattle.condensed_form.proofs.Pushes.{pushed}
use Rattle.condensed_form.proofs.StageFacts.{lifted, lifted_fits}
use Rattle.corner_margin.proofs.ListFacts.{element_is, factors_room}
use Rattle.corner_margin.proofs.lists.reaches.Goals as goal

pub reach-requires : goal.reach-requires
reach-requires c =
    let x = element_is c.args.xs.now c.loop-j.j c.index-xs-j.result c.index-xs-j.is c.loop-j-test.true in
    let some : pos 0 ≤ℤ magnitude (pair_at c.args.xs.now c.loop-j.j) = omega (arith, ints, radius_nonneg c.args.xs.now c.loop-j.j c.loop-j-test.true) in
    subst (λ (e : Enclosure). magnitude e ≤ℤ pos (2 ^ 126)) (sym x)
    (factors_room c.args.scale (magnitude (pair_at c.args.xs.now c.loop-j.j)) c.requires.scale some (c.requires.fits c.loop-j.j c.loop-j-test.true)).1

pub overflow_mul-scale : goal.overflow_mul-scale
overflow_mul-scale c =
    let x = element_is c.args.xs.now c.loop-j.j c.index-xs-j.result c.index-xs-j.is c.loop-j-test.true in
    let some : pos 0 ≤ℤ magnitude (pair_at c.args.xs.now c.loop-j.j) = omega (arith, ints, radius_nonneg c.args.xs.now c.loop-j.j c.loop-j-test.true) in
    let f : SFits w128 c.reach.result = search rules in
    let value : c.reach.result ≡ magnitude (pair_at c.args.xs.now c.loop-j.j) = c.reach.ensures ∙ ap magnitude x in
    let small : unsigned_abs c.reach.result ≤ unsigned_abs (magnitude (pair_at c.args.xs.now c.loop-j.j)) = rw value (omega arith) in
    lifted_fits c.args.scale c.reach.result _ c.ranges.scale f small
    (factors_room c.args.scale (magnitude (pair_at c.args.xs.now c.loop-j.j)) c.requires.scale some (c.requires.fits c.loop-j.j c.loop-j-test.true)).0

pub loop-j-preserved : goal.loop-j-preserved
loop-j-preserved c =
    let x = element_is c.args.xs.now c.loop-j.j c.index-xs-j.result c.index-xs-j.is c.loop-j-test.true in
    let some : pos 0 ≤ℤ magnitude (pair_at c.args.xs.now c.loop-j.j) = omega (arith, ints, radius_nonneg c.args.xs.now c.loop-j.j c.loop-j-test.true) in
    let f : SFits w128 c.reach.result = search rules in
    let value : c.reach.result ≡ magnitude (pair_at c.args.xs.now c.loop-j.j) = c.reach.ensures ∙ ap magnitude x in
    let small : unsigned_abs c.reach.result ≤ unsigned_abs (magnitude (pair_at c.args.xs.now c.loop-j.j)) = rw value (omega arith) in
    pushed _ _ _ c.loop-j.j (λ j. read c.args.scale *ℤ magnitude (pair_at c.args.xs.now j)) c.in_ok-push.ensures.items
    (lifted c.args.scale c.reach.result _ c.ranges.scale f small
    (factors_room c.args.scale (magnitude (pair_at c.args.xs.now c.loop-j.j)) c.requires.scale some (c.requires.fits c.loop-j.j c.loop-j-test.true)).0 ∙
    rw (to_z-of_z w128 _ c.ranges.scale, value) refl)
    c.loop-j.invariant
