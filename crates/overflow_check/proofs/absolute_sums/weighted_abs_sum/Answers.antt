use Rattle.std.proofs.Common.{arith}
use Rattle.overflow_check.proofs.Greatest.{sum_steps}
use Rattle.overflow_check.proofs.absolute_sums.weighted_abs_sum.Goals as goal

pub returns-in_err-product : goal.returns-in_err-product
returns-in_err-product c = grind (arith, sum_steps)

pub returns-in_err-sum : goal.returns-in_err-sum
returns-in_err-sum c = grind (arith, sum_steps)

pub loop-i-preserved : goal.loop-i-preserved
loop-i-preserved c = grind (arith, sum_steps)
