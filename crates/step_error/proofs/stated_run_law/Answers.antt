use Rattle.step_error.proofs.MachineRuns.{stated_run}
use Rattle.step_error.proofs.stated_run_law.Goals as goal

pub returns : goal.returns
returns c = stated_run
