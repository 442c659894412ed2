use Rattle.frac_scaled.proofs.EnclosureLaws as laws
use Rattle.enclosure.proofs.whole_law.Goals as goal

pub returns : goal.returns
returns c = laws.whole_law
