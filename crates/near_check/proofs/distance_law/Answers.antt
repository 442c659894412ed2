use Rattle.near_check.proofs.DistanceLaws as laws
use Rattle.near_check.proofs.distance_law.Goals as goal

pub returns : goal.returns
returns c = laws.distance_law
