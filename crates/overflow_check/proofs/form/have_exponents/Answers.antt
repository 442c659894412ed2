use Rattle.std.proofs.Common.{arith}
use Rattle.std.proofs.lemmas.Grind.{common_steps}
use Rattle.overflow_check.proofs.form.have_exponents.Goals as goal

pub returns-then-not-are_exponents : goal.returns-then-not-are_exponents
returns-then-not-are_exponents c = grind (arith, common_steps)

pub returns-then-version-ne-FIRST_VERSION : goal.returns-then-version-ne-FIRST_VERSION
returns-then-version-ne-FIRST_VERSION c = grind (arith, common_steps)

pub returns-else-version-ne-FIRST_VERSION : goal.returns-else-version-ne-FIRST_VERSION
returns-else-version-ne-FIRST_VERSION c = grind (arith, common_steps)
