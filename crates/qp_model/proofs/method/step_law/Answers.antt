use Rattle.qp_model.proofs.StepLaws as laws
use Rattle.qp_model.proofs.method.step_law.Goals as goal

pub returns : goal.returns
returns c = laws.step_law
