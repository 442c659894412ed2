use Rattle.qp_model.proofs.RunLaws as laws
use Rattle.qp_model.proofs.laws.run_law.Goals as goal

pub returns : goal.returns
returns c = laws.run_law
