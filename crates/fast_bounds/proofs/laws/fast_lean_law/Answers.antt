use Rattle.fast_bounds.proofs.FastPromise.{lean_law}
use Rattle.fast_bounds.proofs.laws.fast_lean_law.Goals as goal

pub returns : goal.returns
returns c = lean_law
