use Rattle.mat_int.proofs.EnclosureLaws as laws
use Rattle.enclosure.proofs.combined_law.Goals as goal

pub returns : goal.returns
returns c = laws.combined_law
