use Rattle.std.proofs.Common.{arith}
use Rattle.std.proofs.lemmas.Grind.{common_steps}
use Rattle.overflow_check.proofs.form.has_form.Goals as goal

pub returns-then-have_exponents : goal.returns-then-have_exponents
returns-then-have_exponents c = grind (arith, common_steps)
