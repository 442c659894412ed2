use Rattle.qp_model.proofs.ExcessLaws as laws
use Rattle.qp_model.proofs.laws.excess_law.Goals as goal

pub returns : goal.returns
returns c = laws.excess_law
