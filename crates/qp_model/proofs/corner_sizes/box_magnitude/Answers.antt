use Rattle.std.proofs.Common.{◌≡◌, ◌<◌, ℕ, max, unsigned_abs, rules, arith, sym, refl, ◌∙◌}
use Rattle.std.specs.Int.{w128}
use mir.Val.{SFits}
use Rattle.std.proofs.lemmas.Int.{to_z-of_z}
use Rattle.integer_algebra.specs.Sums.{at}
use Rattle.qp_model.proofs.SizeFacts.{greatest_next, numerator_at}
use Rattle.qp_model.proofs.CornerFacts.{over_is}
use Rattle.qp_model.proofs.corner_sizes.box_magnitude.Goals as goal

under : (a b c m t : ℕ) → m ≡ max a (max b c) → a < t → b < t → c < t → m < t
under a b c m t e h k l = omega arith

pub loop-i-preserved : goal.loop-i-preserved
loop-i-preserved c =
    let p = c.args.parts.now in
    let i = c.loop-i.i in
    let f : SFits w128 c.index.result.now = search rules in
    let g : SFits w128 c.index-in-loop-i.result.now = search rules in
    let low = over_is p.lo.items i p.states c.index.result.now c.unsigned_abs.result c.index.ensures c.loop-i-test.true (sym c.requires.lo.long)
    (rw (to_z-of_z w128 _ f) at c.unsigned_abs.ensures.value) in
    let high = over_is p.hi.items i p.states c.index-in-loop-i.result.now c.unsigned_abs-in-loop-i.result c.index-in-loop-i.ensures c.loop-i-test.true (sym c.requires.hi.long)
    (rw (to_z-of_z w128 _ g) at c.unsigned_abs-in-loop-i.ensures.value) in
    let wide : c.max.result ≡ max (unsigned_abs (at p.lo.items i)) (unsigned_abs (at p.hi.items i)) = c.max.ensures ∙ rw (low, high) refl in
    let most : c.max-most.result ≡ max c.loop-i.most (max (unsigned_abs (at p.lo.items i)) (unsigned_abs (at p.hi.items i))) = c.max-most.ensures ∙ rw wide refl in
    record {
      value = greatest_next i (λ k. max (unsigned_abs (at p.lo.items k)) (unsigned_abs (at p.hi.items k))) c.loop-i.most c.max-most.result c.max.result c.loop-i.invariant.value wide c.max-most.ensures;
      small = under _ _ _ _ _ most c.loop-i.invariant.small (numerator_at p.lo.items c.requires.lo.numbers i) (numerator_at p.hi.items c.requires.hi.numbers i);
    }
