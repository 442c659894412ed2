use Rattle.scaled_run.proofs.FormLaws as laws
use Rattle.scaled_run.proofs.laws.exact_is_scaled.Goals as goal

pub returns : goal.returns
returns c = laws.exact_is_scaled
