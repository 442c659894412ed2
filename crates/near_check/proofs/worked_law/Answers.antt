use Rattle.near_check.proofs.WorkedFacts.{worked}
use Rattle.near_check.proofs.worked_law.Goals as goal

pub returns : goal.returns
returns c = worked
