use Rattle.qp_model.proofs.CurvatureLaws as laws
use Rattle.qp_model.proofs.laws.expansion_law.Goals as goal

pub returns : goal.returns
returns c = laws.expansion_law
