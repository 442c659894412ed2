use Rattle.std.proofs.Common.{◌≡◌, ◌^◌, unsigned_abs}
use Rattle.integer_algebra.specs.Sizes.{amount}
use Rattle.integer_algebra.specs.Sums.{at}
use Rattle.qp_model.specs.form.Form.{farthest}
use Rattle.condensed_form.proofs.limit.squares_of_row.Given as goal

abbrev pub invariant-loop-j : goal.invariant-loop-j
invariant-loop-j l = l.sum ≡ amount l.j (λ j. farthest (at l.mids j) (unsigned_abs (at l.rads j)) ^ 2)
