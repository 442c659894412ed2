use Rattle.std.proofs.Common.{arith}
use Rattle.std.proofs.lemmas.Grind.{common_steps}
use Rattle.overflow_check.proofs.controller.is_safe.Goals as goal

pub overflow_sub-parts : goal.overflow_sub-parts
overflow_sub-parts c = grind (arith, common_steps)

pub returns-in-None : goal.returns-in-None
returns-in-None c = grind (arith, common_steps)
