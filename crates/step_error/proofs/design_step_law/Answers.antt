use Rattle.step_error.proofs.DesignLaws as laws
use Rattle.step_error.proofs.design_step_law.Goals as goal

pub returns : goal.returns
returns c = laws.design_step_law
