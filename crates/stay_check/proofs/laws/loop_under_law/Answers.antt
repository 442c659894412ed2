use Rattle.stay_check.proofs.LoopLaws as laws
use Rattle.stay_check.proofs.laws.loop_under_law.Goals as goal

pub returns : goal.returns
returns c = laws.loop_under_law
