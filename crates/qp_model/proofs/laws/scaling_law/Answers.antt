use Rattle.qp_model.proofs.ScalingLaws as laws
use Rattle.qp_model.proofs.laws.scaling_law.Goals as goal

pub returns : goal.returns
returns c = laws.scaling_law
