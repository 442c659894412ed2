use Rattle.std.proofs.Common.{arith}
use Rattle.std.proofs.lemmas.Grind.{common_steps}
use Rattle.overflow_check.proofs.form.is_shaped.Goals as goal

pub returns-then-has_shape-4 : goal.returns-then-has_shape-4
returns-then-has_shape-4 c = grind (arith, common_steps)

pub returns-else-has_shape-4 : goal.returns-else-has_shape-4
returns-else-has_shape-4 c = grind (arith, common_steps)
