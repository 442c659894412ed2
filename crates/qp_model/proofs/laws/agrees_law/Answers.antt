use Rattle.qp_model.proofs.AgreesLaws as laws
use Rattle.qp_model.proofs.laws.agrees_law.Goals as goal

pub returns : goal.returns
returns c = laws.agrees_law
