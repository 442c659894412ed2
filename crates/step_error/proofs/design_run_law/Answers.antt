use Rattle.step_error.proofs.DesignLaws as laws
use Rattle.step_error.proofs.design_run_law.Goals as goal

pub returns : goal.returns
returns c = laws.design_run_law
