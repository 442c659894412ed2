use Rattle.plan_excess.proofs.RoundFacts.{steepness_is}
use Rattle.plan_excess.proofs.slope.steepness.Goals as goal

pub returns : goal.returns
returns c = steepness_is c.args.gradient c.magnitude.result c.div_ceil.result c.magnitude.ensures c.div_ceil.ensures
