use Rattle.std.proofs.Common.{◌≡◌, unsigned_abs}
use Rattle.integer_algebra.specs.Sums.{at}
use Rattle.qp_model.specs.form.Quantities.{greatest}
use Rattle.step_error.proofs.radii.greatest_size.Given as goal

abbrev pub invariant-loop-x : goal.invariant-loop-x
invariant-loop-x l = l.most ≡ greatest l.x-index (λ j. unsigned_abs (at l.xs j))
