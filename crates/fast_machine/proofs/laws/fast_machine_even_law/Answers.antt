use Rattle.fast_machine.proofs.FastMachineRuns.{machine_even}
use Rattle.fast_machine.proofs.laws.fast_machine_even_law.Goals as goal

pub returns : goal.returns
returns c = machine_even
