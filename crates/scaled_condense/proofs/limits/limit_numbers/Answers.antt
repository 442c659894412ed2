use Rattle.scaled_condense.proofs.LimitFacts.{unit_fits, bounds_fit, bounds_held}
use Rattle.scaled_condense.proofs.limits.limit_numbers.Goals as goal

pub overflow_cast-over : goal.overflow_cast-over
overflow_cast-over c = unit_fits c.args.parts.now c.args.over c.args.reach c.requires.scale

pub scaled_bounds-requires-clause-fits : goal.scaled_bounds-requires-clause-fits
scaled_bounds-requires-clause-fits c = bounds_fit c.args.parts.now c.args.over c.args.reach c.requires.scale c.requires.fits

pub returns : goal.returns
returns c = record {
  plan = c.in_ok-g.ensures;
  state = c.in_ok-e.ensures;
  bound = bounds_held c.args.parts.now c.args.over c.args.reach c.requires.scale _ c.in_ok-bound.ensures;
}
