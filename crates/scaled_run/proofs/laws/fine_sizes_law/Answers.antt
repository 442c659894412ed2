use Rattle.scaled_run.proofs.SizeLaws as laws
use Rattle.scaled_run.proofs.laws.fine_sizes_law.Goals as goal

pub returns : goal.returns
returns c = laws.fine_sizes_law
