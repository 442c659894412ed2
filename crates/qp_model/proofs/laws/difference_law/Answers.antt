use Rattle.qp_model.proofs.DifferenceLaws as laws
use Rattle.qp_model.proofs.laws.difference_law.Goals as goal

pub returns : goal.returns
returns c = laws.difference_law
