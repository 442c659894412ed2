use Rattle.fast_machine.proofs.FastBelow.{values_law}
use Rattle.fast_machine.proofs.laws.fast_values_law.Goals as goal

pub returns : goal.returns
returns c = values_law
