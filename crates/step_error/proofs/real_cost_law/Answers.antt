use Rattle.step_error.proofs.RealCosts as laws
use Rattle.step_error.proofs.real_cost_law.Goals as goal

pub returns : goal.returns
returns c = laws.cost
