use Rattle.overflow_check.proofs.SubSums as values
use Rattle.overflow_check.proofs.laws.sub_sums_law.Goals as goal

pub returns : goal.returns
returns c = values.sub_sums_law
