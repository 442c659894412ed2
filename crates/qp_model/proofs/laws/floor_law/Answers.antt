use Rattle.qp_model.proofs.DifferenceLaws as laws
use Rattle.qp_model.proofs.laws.floor_law.Goals as goal

pub returns : goal.returns
returns c = laws.floor_law
