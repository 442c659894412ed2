use Rattle.fast_machine.proofs.FastStepLaws as laws
use Rattle.fast_machine.proofs.method.fast_step_law.Goals as goal

pub returns : goal.returns
returns c = laws.step_law
