use Rattle.settle_check.proofs.StillLaws as laws
use Rattle.settle_check.proofs.laws.still_law.Goals as goal

pub returns : goal.returns
returns c = laws.still_law
