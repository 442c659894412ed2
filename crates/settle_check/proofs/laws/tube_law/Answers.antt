use Rattle.settle_check.proofs.TubeLaws as laws
use Rattle.settle_check.proofs.laws.tube_law.Goals as goal

pub returns : goal.returns
returns c = record { rows = laws.rows_law; tube = laws.tube_law }
