use Rattle.fast_machine.proofs.WeightSums.{weight_sum_law}
use Rattle.fast_machine.proofs.laws.weight_sum_law.Goals as goal

pub returns : goal.returns
returns c = weight_sum_law
