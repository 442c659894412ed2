use Rattle.fast_bounds.proofs.FastDesignRuns.{fast_design_run}
use Rattle.fast_bounds.proofs.laws.fast_design_run_law.Goals as goal

pub returns : goal.returns
returns c = fast_design_run
