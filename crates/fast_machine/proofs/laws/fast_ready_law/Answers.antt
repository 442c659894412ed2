use Rattle.fast_machine.proofs.FastRuns.{ready_law}
use Rattle.fast_machine.proofs.laws.fast_ready_law.Goals as goal

pub returns : goal.returns
returns c = ready_law
