use Rattle.frac_scaled.proofs.EnclosureLaws as laws
use Rattle.enclosure.proofs.product_law.Goals as goal

pub returns : goal.returns
returns c = laws.product_law
