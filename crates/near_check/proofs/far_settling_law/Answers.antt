use Rattle.near_check.proofs.FarSettlingLaws as laws
use Rattle.near_check.proofs.far_settling_law.Goals as goal

pub returns : goal.returns
returns c = laws.far_settling_law
