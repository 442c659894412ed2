use Rattle.near_check.proofs.FarRowLaws as laws
use Rattle.near_check.proofs.far_row_law.Goals as goal

pub returns : goal.returns
returns c = laws.far_row_law
