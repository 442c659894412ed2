use Rattle.fast_machine.proofs.FastRunLaws as laws
use Rattle.fast_machine.proofs.method.fast_run_law.Goals as goal

pub returns : goal.returns
returns c = laws.run_law
