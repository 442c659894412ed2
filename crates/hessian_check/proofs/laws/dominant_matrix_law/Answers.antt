use Rattle.hessian_check.proofs.ChosenLaws as laws
use Rattle.hessian_check.proofs.laws.dominant_matrix_law.Goals as goal

pub returns : goal.returns
returns c = laws.dominant_matrix_law
