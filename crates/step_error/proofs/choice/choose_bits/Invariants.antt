use Rattle.std.proofs.Common.{ℕ, ◌<◌, ◌≤◌, unsigned_abs}
use Rattle.qp_model.specs.bounds.Errors.{epsilon}
use Rattle.step_error.specs.ErrorSums.{sums_of}
use Rattle.step_error.proofs.choice.choose_bits.Given as goal

abbrev pub invariant-loop-f : goal.invariant-loop-f
invariant-loop-f l = (k : ℕ) → l.fn.g ≤ k → k < l.f → unsigned_abs l.fn.limit < epsilon (sums_of l.e) k
