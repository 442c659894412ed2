use Rattle.near_check.proofs.FarTubeLaws as laws
use Rattle.near_check.proofs.far_tube_law.Goals as goal

pub returns : goal.returns
returns c = laws.far_tube_law
