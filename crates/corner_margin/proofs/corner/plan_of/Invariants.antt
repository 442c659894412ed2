use Rattle.std.proofs.Common.{unsigned_abs}
use Rattle.integer_algebra.specs.Sums.{at}
use Rattle.scaled_run.specs.ScaledCorners.{over_unit}
use Rattle.scaled_run.specs.Lists.{HoldsEnclosures}
use Rattle.corner_margin.proofs.corner.plan_of.Given as goal

abbrev pub invariant-loop-number : goal.invariant-loop-number
invariant-loop-number l = HoldsEnclosures l.out.items l.number-index (λ j. over_unit l.unit (at l.numerators j) (unsigned_abs l.over))
