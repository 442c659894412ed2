use Rattle.fast_bounds.proofs.FastDesignRuns.{fast_stated_run}
use Rattle.fast_bounds.proofs.laws.fast_stated_run_law.Goals as goal

pub returns : goal.returns
returns c = fast_stated_run
