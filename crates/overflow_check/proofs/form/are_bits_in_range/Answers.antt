use Rattle.std.proofs.Common.{arith}
use Rattle.std.proofs.lemmas.Grind.{common_steps}
use Rattle.overflow_check.proofs.form.are_bits_in_range.Goals as goal

pub returns-then-c-le40 : goal.returns-then-c-le40
returns-then-c-le40 c = grind (arith, common_steps)

pub returns-else-c-le40 : goal.returns-else-c-le40
returns-else-c-le40 c = grind (arith, common_steps)
