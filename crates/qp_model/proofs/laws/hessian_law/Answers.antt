use Rattle.qp_model.proofs.CurvatureLaws as laws
use Rattle.qp_model.proofs.laws.hessian_law.Goals as goal

pub returns : goal.returns
returns c = laws.hessian_law
