use Rattle.near_check.proofs.NearLaws as laws
use Rattle.near_check.proofs.certified_near_law.Goals as goal

pub returns : goal.returns
returns c = laws.certified_near_law
