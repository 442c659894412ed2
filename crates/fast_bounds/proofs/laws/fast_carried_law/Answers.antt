use Rattle.fast_bounds.proofs.FastDesignRuns.{fast_carried}
use Rattle.fast_bounds.proofs.laws.fast_carried_law.Goals as goal

pub returns : goal.returns
returns c = fast_carried
