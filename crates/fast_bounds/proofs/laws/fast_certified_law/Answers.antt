use Rattle.fast_bounds.proofs.FastPromise.{certified_law}
use Rattle.fast_bounds.proofs.laws.fast_certified_law.Goals as goal

pub returns : goal.returns
returns c = certified_law
