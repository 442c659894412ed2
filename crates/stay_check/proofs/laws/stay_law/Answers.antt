use Rattle.stay_check.proofs.StayLaws as laws
use Rattle.stay_check.proofs.laws.stay_law.Goals as goal

pub returns : goal.returns
returns c = laws.stay_law
