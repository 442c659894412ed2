use Rattle.fast_bounds.proofs.PlanErrors.{plan_errors}
use Rattle.fast_bounds.proofs.laws.plan_errors_law.Goals as goal

pub returns : goal.returns
returns c = plan_errors
