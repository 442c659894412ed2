use Rattle.qp_model.proofs.CurvatureLaws as laws
use Rattle.qp_model.proofs.laws.average_law.Goals as goal

pub returns : goal.returns
returns c = laws.average_law
