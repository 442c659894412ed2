use Rattle.settle_check.proofs.WorkedFacts.{worked}
use Rattle.settle_check.proofs.laws.worked_law.Goals as goal

pub returns : goal.returns
returns c = worked
