use Rattle.settle_check.proofs.RowLaws as laws
use Rattle.settle_check.proofs.laws.row_law.Goals as goal

pub returns : goal.returns
returns c = laws.row_law
