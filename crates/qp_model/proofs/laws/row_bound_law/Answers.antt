use Rattle.qp_model.proofs.RowLaws as laws
use Rattle.qp_model.proofs.laws.row_bound_law.Goals as goal

pub returns : goal.returns
returns c = laws.row_bound_law
