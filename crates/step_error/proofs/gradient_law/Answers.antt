use Rattle.step_error.proofs.CarriedLaws as laws
use Rattle.step_error.proofs.gradient_law.Goals as goal

pub returns : goal.returns
returns c = laws.gradient
