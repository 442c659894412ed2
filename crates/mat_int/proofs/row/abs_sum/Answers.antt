use Rattle.mat_int.proofs.Dots.{abs_sum_steps}
use Rattle.std.proofs.Common.{arith}
use Rattle.std.proofs.lemmas.Grind.{common_steps}
use Rattle.mat_int.proofs.row.abs_sum.Goals as goal

pub returns : goal.returns
returns c = grind (arith, common_steps)

pub returns-in_err-checked_abs : goal.returns-in_err-checked_abs
returns-in_err-checked_abs c = grind (arith, abs_sum_steps)

pub returns-in_err-sum : goal.returns-in_err-sum
returns-in_err-sum c = grind (arith, abs_sum_steps)

pub loop-x-preserved : goal.loop-x-preserved
loop-x-preserved c = grind (arith, abs_sum_steps)
