use Rattle.mat_int.proofs.EnclosureLaws as laws
use Rattle.enclosure.proofs.brought_law.Goals as goal

pub returns : goal.returns
returns c = laws.brought_law
