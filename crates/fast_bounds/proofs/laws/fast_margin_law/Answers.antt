use Rattle.fast_bounds.proofs.FastMargin.{margin_law}
use Rattle.fast_bounds.proofs.laws.fast_margin_law.Goals as goal

pub returns : goal.returns
returns c = margin_law
