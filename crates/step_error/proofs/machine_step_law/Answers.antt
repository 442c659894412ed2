use Rattle.step_error.proofs.MachineStepLaws.{machine_step}
use Rattle.step_error.proofs.machine_step_law.Goals as goal

pub returns : goal.returns
returns c = machine_step
