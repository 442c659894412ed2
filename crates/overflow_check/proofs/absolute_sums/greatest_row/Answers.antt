use Rattle.std.proofs.Common.{length, arith}
use Rattle.qp_model.specs.machine.Controller.{numbers}
use Rattle.qp_model.specs.machine.AbsoluteSums.{row_absolute_sum}
use Rattle.overflow_check.proofs.Greatest.{le-greatest, greatest_steps}
use Rattle.overflow_check.proofs.absolute_sums.greatest_row.Goals as goal

pub returns-in_err-row_absolute_sum : goal.returns-in_err-row_absolute_sum
returns-in_err-row_absolute_sum c =
    rw c.from_residual.ensures (λ h. c.in_err-row_absolute_sum.ensures (omega (arith, le-greatest (row_absolute_sum (numbers c.args.c.now)) (length c.args.c.now.bound.items) c.loop-i.i (omega arith), h)))

pub loop-i-preserved : goal.loop-i-preserved
loop-i-preserved c = grind (arith, greatest_steps)

pub returns : goal.returns
returns c = grind (arith, greatest_steps)
