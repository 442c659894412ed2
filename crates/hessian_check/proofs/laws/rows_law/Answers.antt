use Rattle.hessian_check.proofs.ExponentLaws as laws
use Rattle.hessian_check.proofs.laws.rows_law.Goals as goal

pub returns : goal.returns
returns c = laws.rows_law
