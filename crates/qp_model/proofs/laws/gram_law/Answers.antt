use Rattle.qp_model.proofs.GramLaws as laws
use Rattle.qp_model.proofs.laws.gram_law.Goals as goal

pub returns : goal.returns
returns c = laws.gram_law
