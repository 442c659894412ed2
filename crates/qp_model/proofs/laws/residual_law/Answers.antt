use Rattle.qp_model.proofs.RowLaws as laws
use Rattle.qp_model.proofs.laws.residual_law.Goals as goal

pub returns : goal.returns
returns c = laws.residual_law
