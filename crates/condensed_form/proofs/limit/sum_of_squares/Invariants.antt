use Rattle.std.proofs.Common.{◌≡◌, ◌^◌, unsigned_abs}
use Rattle.integer_algebra.specs.Sizes.{amount}
use Rattle.mat_int.specs.Matrix.{entry_of}
use Rattle.qp_model.specs.form.Form.{farthest}
use Rattle.condensed_form.proofs.limit.sum_of_squares.Given as goal

abbrev pub invariant-loop-i : goal.invariant-loop-i
invariant-loop-i l = l.sum ≡ amount l.i (λ i. amount l.mid.cols (λ j. farthest (entry_of l.mid i j) (unsigned_abs (entry_of l.rad i j)) ^ 2))
