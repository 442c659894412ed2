use Rattle.overflow_check.proofs.ValuesMet as values
use Rattle.overflow_check.proofs.laws.values_law.Goals as goal

pub returns : goal.returns
returns c = values.values_law
