use Rattle.qp_model.proofs.QuadraticLaws.{expands}
use Rattle.qp_model.proofs.method.expansion_law.Goals as goal

pub returns : goal.returns
returns c = expands
