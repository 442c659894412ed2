use Rattle.stay_check.proofs.LoopLaws as laws
use Rattle.stay_check.proofs.laws.loop_stay_law.Goals as goal

pub returns : goal.returns
returns c = record { stays = laws.loop_stay_law; same = laws.unshifted }
