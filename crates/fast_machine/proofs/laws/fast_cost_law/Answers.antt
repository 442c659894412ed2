use Rattle.fast_machine.proofs.FastMachineRuns.{machine_cost}
use Rattle.fast_machine.proofs.laws.fast_cost_law.Goals as goal

pub returns : goal.returns
returns c = machine_cost
