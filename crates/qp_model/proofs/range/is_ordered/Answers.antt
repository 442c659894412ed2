use Rattle.std.proofs.Common.{◌<◌, arith, refl, rules}
use Rattle.qp_model.proofs.range.is_ordered.Goals as goal

pub loop-i-preserved : goal.loop-i-preserved
loop-i-preserved c = search rules

pub returns : goal.returns
returns c = (λ _ k h. let met : k < c.loop-i.i = omega arith in c.loop-i.invariant k met, λ _. refl)
