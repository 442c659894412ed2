use Rattle.hessian_check.proofs.ChosenLaws as laws
use Rattle.hessian_check.proofs.laws.root_matrix_law.Goals as goal

pub returns : goal.returns
returns c = laws.root_matrix_law
