use Rattle.std.proofs.Common.{arith}
use Rattle.std.proofs.lemmas.Grind.{common_steps}
use Rattle.overflow_check.proofs.form.is_box.Goals as goal

pub returns-then-are_numerators-2 : goal.returns-then-are_numerators-2
returns-then-are_numerators-2 c = grind (arith, common_steps)

pub returns-else-are_numerators-2 : goal.returns-else-are_numerators-2
returns-else-are_numerators-2 c = grind (arith, common_steps)
