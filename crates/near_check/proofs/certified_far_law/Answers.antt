use Rattle.near_check.proofs.FarSettlingLaws as laws
use Rattle.near_check.proofs.certified_far_law.Goals as goal

pub returns : goal.returns
returns c = laws.certified_far_law
