use Rattle.near_check.proofs.LeanNearLaws as laws
use Rattle.near_check.proofs.lean_near_law.Goals as goal

pub returns : goal.returns
returns c = laws.lean_near_law
