use Rattle.std.proofs.Common.{arith}
use Rattle.std.proofs.lemmas.Grind.{common_steps}
use Rattle.overflow_check.proofs.form.are_sizes_in_range.Goals as goal

pub returns-then-lies_in-3 : goal.returns-then-lies_in-3
returns-then-lies_in-3 c = grind (arith, common_steps)

pub returns-else-lies_in-3 : goal.returns-else-lies_in-3
returns-else-lies_in-3 c = grind (arith, common_steps)
