use Rattle.hessian_check.proofs.ExponentLaws as laws
use Rattle.hessian_check.proofs.laws.form_squares_law.Goals as goal

pub returns : goal.returns
returns c = laws.form_squares_law
