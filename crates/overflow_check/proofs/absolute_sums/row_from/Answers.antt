use Rattle.std.proofs.Common.{arith}
use Rattle.overflow_check.proofs.Greatest.{row_parts}
use Rattle.overflow_check.proofs.absolute_sums.row_from.Goals as goal

pub returns-in_err-sum : goal.returns-in_err-sum
returns-in_err-sum c = grind (arith, row_parts)

pub returns-in_err-checked_mul : goal.returns-in_err-checked_mul
returns-in_err-checked_mul c = grind (arith, row_parts)

pub returns-in_err-checked_add : goal.returns-in_err-checked_add
returns-in_err-checked_add c = grind (arith, row_parts)

pub returns : goal.returns
returns c = grind (arith, row_parts)
