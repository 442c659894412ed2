use Rattle.std.proofs.Common.{below_more, arith, refl}
use Rattle.settle_check.proofs.text.has_state.Goals as goal

pub returns-then-not-is_ordered : goal.returns-then-not-is_ordered
returns-then-not-is_ordered c = (λ t. absurd (let never : ⊥ = cc in never), λ state. c.if-not-is_ordered.ensures.1 (state c.loop-i.i (omega (arith, c.loop-i-test.true, c.loop-i.invariant.end))))

pub returns : goal.returns
returns c = (λ t k lt. c.loop-i.invariant.inside k (omega (arith, lt, c.loop-i-test.false, c.loop-i.invariant.end)), λ state. refl)

pub loop-i-preserved : goal.loop-i-preserved
loop-i-preserved c = record { end = c.loop-i.invariant.end; inside = below_more _ _ c.loop-i.invariant.inside (c.if-not-is_ordered.ensures.0 refl) }
