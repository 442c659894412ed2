use Rattle.scaled_run.proofs.RunLaws as laws
use Rattle.scaled_run.proofs.laws.exact_limit_law.Goals as goal

pub returns : goal.returns
returns c = laws.exact_limit_law
