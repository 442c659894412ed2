use Rattle.settle_check.proofs.FastStillLaws as laws
use Rattle.settle_check.proofs.laws.fast_still_law.Goals as goal

pub returns : goal.returns
returns c = laws.fast_still_law
