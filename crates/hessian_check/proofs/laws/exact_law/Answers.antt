use Rattle.hessian_check.proofs.RadiusLaws as laws
use Rattle.hessian_check.proofs.laws.exact_law.Goals as goal

pub returns : goal.returns
returns c = laws.exact_law
