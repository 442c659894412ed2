use Rattle.step_error.proofs.RealSteps as laws
use Rattle.step_error.proofs.real_carried_law.Goals as goal

pub returns : goal.returns
returns c = laws.carried
