use Rattle.fast_machine.proofs.FastMachineRuns.{average_law}
use Rattle.fast_machine.proofs.laws.fast_average_law.Goals as goal

pub returns : goal.returns
returns c = average_law
