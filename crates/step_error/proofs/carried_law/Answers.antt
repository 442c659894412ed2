use Rattle.step_error.proofs.MachineErrors as laws
use Rattle.step_error.proofs.carried_law.Goals as goal

pub returns : goal.returns
returns c = laws.carried
