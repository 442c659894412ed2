use Rattle.fixed_kernel.proofs.OneOutside as outside
use Rattle.fixed_kernel.proofs.laws.one_outside_law.Goals as goal

pub returns : goal.returns
returns c = outside.one_outside_law
