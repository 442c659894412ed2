use Rattle.scaled_run.proofs.SizeLaws as laws
use Rattle.scaled_run.proofs.laws.exact_reach_law.Goals as goal

pub returns : goal.returns
returns c = laws.exact_reach_law
