use Rattle.std.proofs.Common.{◌≡◌, ℕ, ◌^◌, ◌<◌, ◌≤◌, ℤ, pos, ◌*ℤ◌, ◌≤ℤ◌, ◌<ℤ◌, true, false, rules, FitsSigned, arith, below_more, refl, ◌∙◌}
use lib.Signed.{lt_z}
use Rattle.std.specs.Int.{w128}
use Rattle.std.proofs.lemmas.Int.{ints, to_z-of_z}
use Rattle.integer_algebra.specs.Sums.{at}
use Rattle.corner_margin.proofs.SlackFacts.{least_fits}
use Rattle.corner_margin.proofs.lists.first_short.Goals as goal

pub scaled-requires-clause-fits : goal.scaled-requires-clause-fits
scaled-requires-clause-fits c =
    let i = c.loop-i.i in
    let xs = c.args.slacks.now in
    let x : FitsSigned w128 (at xs i) = search rules in
    rw (to_z-of_z w128 _ x) (least_fits (at xs i) (at xs i) refl (c.requires i c.loop-i-test.true))

pub loop-i-preserved : goal.loop-i-preserved
loop-i-preserved c =
    let xs = c.args.slacks.now in
    let x : FitsSigned w128 (at xs c.loop-i.i) = search rules in
    let s : FitsSigned w128 c.scaled.result = search rules in
    below_more _ _ c.loop-i.invariant (keeps (at xs c.loop-i.i) _ _ (to_z-of_z w128 _ s ∙ rw (to_z-of_z w128 _ x) at c.scaled.ensures) c.if-scaled-den.false)
  where
    keeps : (x d s : ℤ) → s ≡ x *ℤ pos (2 ^ 16) → lt_z s d ≡ false → d ≤ℤ (pos (2 ^ 16) *ℤ x)
    keeps x d s e t = omega (arith, ints, e, t)

pub returns-then-scaled-den : goal.returns-then-scaled-den
returns-then-scaled-den c =
    let xs = c.args.slacks.now in
    let x : FitsSigned w128 (at xs c.loop-i.i) = search rules in
    let s : FitsSigned w128 c.scaled.result = search rules in
    let den = to_z-of_z w128 _ c.ranges.den in (
      c.loop-i-test.true,
      short (at xs c.loop-i.i) _ _ (to_z-of_z w128 _ s ∙ rw (to_z-of_z w128 _ x) at c.scaled.ensures) (rw den at c.if-scaled-den.true),
      λ k l. rw den at (c.loop-i.invariant k l),
    )
  where
    short : (x d s : ℤ) → s ≡ x *ℤ pos (2 ^ 16) → lt_z s d ≡ true → (pos (2 ^ 16) *ℤ x) <ℤ d
    short x d s e t = omega (arith, ints, e, t)

pub returns : goal.returns
returns c = λ k l. rw (to_z-of_z w128 _ c.ranges.den) at (c.loop-i.invariant k (within l c.loop-i-test.false))
  where
    within : {k n i : ℕ} → k < n → n ≤ i → k < i
    within h g = omega (arith, h, g)
