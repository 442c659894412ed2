use Rattle.integer_algebra.proofs.CauchyLaws.{lagrange}
use Rattle.integer_algebra.proofs.lagrange_law.Goals as goal

pub returns : goal.returns
returns c = lagrange
