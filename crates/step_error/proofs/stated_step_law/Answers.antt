use Rattle.step_error.proofs.MachineStepLaws.{stated_step}
use Rattle.step_error.proofs.stated_step_law.Goals as goal

pub returns : goal.returns
returns c = stated_step
