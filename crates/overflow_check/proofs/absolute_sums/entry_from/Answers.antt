use Rattle.std.proofs.Common.{arith}
use Rattle.overflow_check.proofs.Greatest.{entry_parts}
use Rattle.overflow_check.proofs.absolute_sums.entry_from.Goals as goal

pub returns-in_err-checked_mul-2 : goal.returns-in_err-checked_mul-2
returns-in_err-checked_mul-2 c = grind (arith, entry_parts)

pub returns-in_err-checked_add : goal.returns-in_err-checked_add
returns-in_err-checked_add c = grind (arith, entry_parts)

pub returns : goal.returns
returns c = grind (arith, entry_parts)
