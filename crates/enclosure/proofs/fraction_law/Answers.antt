use Rattle.frac_scaled.proofs.EnclosureLaws as laws
use Rattle.enclosure.proofs.fraction_law.Goals as goal

pub returns : goal.returns
returns c = laws.fraction_law
