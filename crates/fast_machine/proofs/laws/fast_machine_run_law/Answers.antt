use Rattle.fast_machine.proofs.FastMachineRuns.{machine_run}
use Rattle.fast_machine.proofs.laws.fast_machine_run_law.Goals as goal

pub returns : goal.returns
returns c = machine_run
