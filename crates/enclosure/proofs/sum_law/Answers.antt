use Rattle.frac_scaled.proofs.EnclosureLaws as laws
use Rattle.enclosure.proofs.sum_law.Goals as goal

pub returns : goal.returns
returns c = laws.sum_law
