use Rattle.std.proofs.Common.{arith}
use Rattle.std.proofs.lemmas.Grind.{common_steps}
use Rattle.overflow_check.proofs.controller.fault_of.Goals as goal

pub returns-then-not-is_in_form-clause-sound : goal.returns-then-not-is_in_form-clause-sound
returns-then-not-is_in_form-clause-sound c = grind (arith, common_steps)

pub returns-then-not-is_in_form-clause-form : goal.returns-then-not-is_in_form-clause-form
returns-then-not-is_in_form-clause-form c = grind (arith, common_steps)

pub returns-then-not-is_in_form-clause-wide : goal.returns-then-not-is_in_form-clause-wide
returns-then-not-is_in_form-clause-wide c = grind (arith, common_steps)

pub returns-then-is_safe-clause-sound : goal.returns-then-is_safe-clause-sound
returns-then-is_safe-clause-sound c = grind (arith, common_steps)

pub returns-then-is_safe-clause-form : goal.returns-then-is_safe-clause-form
returns-then-is_safe-clause-form c = grind (arith, common_steps)

pub returns-then-is_safe-clause-wide : goal.returns-then-is_safe-clause-wide
returns-then-is_safe-clause-wide c = grind (arith, common_steps)

pub returns-else-is_safe-clause-sound : goal.returns-else-is_safe-clause-sound
returns-else-is_safe-clause-sound c = grind (arith, common_steps)

pub returns-else-is_safe-clause-form : goal.returns-else-is_safe-clause-form
returns-else-is_safe-clause-form c = grind (arith, common_steps)

pub returns-else-is_safe-clause-wide : goal.returns-else-is_safe-clause-wide
returns-else-is_safe-clause-wide c = grind (arith, common_steps)
