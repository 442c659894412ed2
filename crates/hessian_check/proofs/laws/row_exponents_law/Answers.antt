use Rattle.hessian_check.proofs.RowExponentLaws as laws
use Rattle.hessian_check.proofs.laws.row_exponents_law.Goals as goal

pub returns : goal.returns
returns c = laws.row_exponent_law
