use Rattle.integer_algebra.proofs.DivisionLaws.{floor_of_is}
use Rattle.integer_algebra.proofs.floor_law.Goals as goal

pub returns : goal.returns
returns c = floor_of_is
