use Rattle.qp_model.proofs.CostLaws as laws
use Rattle.qp_model.proofs.laws.condensing_law.Goals as goal

pub returns : goal.returns
returns c = laws.condensing
