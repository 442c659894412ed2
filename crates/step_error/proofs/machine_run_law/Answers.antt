use Rattle.step_error.proofs.MachineRuns.{machine_run}
use Rattle.step_error.proofs.machine_run_law.Goals as goal

pub returns : goal.returns
returns c = machine_run
