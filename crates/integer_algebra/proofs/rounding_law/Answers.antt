use Rattle.integer_algebra.proofs.DivisionLaws.{round_of_is}
use Rattle.integer_algebra.proofs.rounding_law.Goals as goal

pub returns : goal.returns
returns c = round_of_is
