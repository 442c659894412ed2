use Rattle.qp_model.proofs.MagnitudeLaws as laws
use Rattle.qp_model.proofs.laws.plan_magnitude_law.Goals as goal

pub returns : goal.returns
returns c = laws.plan_magnitude_law
