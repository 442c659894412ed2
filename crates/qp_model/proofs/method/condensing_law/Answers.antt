use Rattle.qp_model.proofs.ObjectiveLaws.{condensed}
use Rattle.qp_model.proofs.method.condensing_law.Goals as goal

pub returns : goal.returns
returns c = condensed
