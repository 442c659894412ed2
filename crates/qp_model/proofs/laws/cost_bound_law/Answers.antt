use Rattle.qp_model.proofs.CountLaws as laws
use Rattle.qp_model.proofs.laws.cost_bound_law.Goals as goal

pub returns : goal.returns
returns c = laws.cost_bound_law
