use Rattle.std.proofs.Common.{below_more, arith, refl}
use Rattle.settle_check.proofs.text.is_part.Goals as goal

pub returns-then-not-is_inside : goal.returns-then-not-is_inside
returns-then-not-is_inside c = (λ t. absurd (let never : ⊥ = cc in never), λ part. c.if-not-is_inside.ensures.1 (part c.loop-i.i (omega (arith, c.loop-i-test.true, c.loop-i.invariant.end))))

pub returns : goal.returns
returns c = (λ t k lt. c.loop-i.invariant.inside k (omega (arith, lt, c.loop-i-test.false, c.loop-i.invariant.end)), λ part. refl)

pub loop-i-preserved : goal.loop-i-preserved
loop-i-preserved c = record { end = c.loop-i.invariant.end; inside = below_more _ _ c.loop-i.invariant.inside (c.if-not-is_inside.ensures.0 refl) }
