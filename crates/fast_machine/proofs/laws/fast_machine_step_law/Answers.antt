use Rattle.fast_machine.proofs.FastSteps.{machine_step}
use Rattle.fast_machine.proofs.laws.fast_machine_step_law.Goals as goal

pub returns : goal.returns
returns c = machine_step
