use Rattle.hessian_check.proofs.RadiusLaws as laws
use Rattle.hessian_check.proofs.laws.held_matrix_law.Goals as goal

pub returns : goal.returns
returns c = laws.held_matrix_law
