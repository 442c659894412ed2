use Rattle.qp_model.proofs.RowLaws as laws
use Rattle.qp_model.proofs.laws.response_law.Goals as goal

pub returns : goal.returns
returns c = laws.response_law
