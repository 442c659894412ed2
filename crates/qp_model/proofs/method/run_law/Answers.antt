use Rattle.qp_model.proofs.MethodRunLaws as laws
use Rattle.qp_model.proofs.method.run_law.Goals as goal

pub returns : goal.returns
returns c = laws.run_law
