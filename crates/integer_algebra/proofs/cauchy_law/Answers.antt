use Rattle.integer_algebra.proofs.CauchyLaws.{cauchy}
use Rattle.integer_algebra.proofs.cauchy_law.Goals as goal

pub returns : goal.returns
returns c = cauchy
