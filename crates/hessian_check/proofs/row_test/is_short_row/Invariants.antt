use Rattle.std.proofs.Common.{ℕ, ◌<◌, ◌≤◌, ◌^◌, unsigned_abs}
use Rattle.integer_algebra.specs.Sums.{at}
use Rattle.hessian_check.proofs.row_test.is_short_row.Given as goal

abbrev pub invariant-loop-x : goal.invariant-loop-x
invariant-loop-x l = (k : ℕ) → k < l.x-index → unsigned_abs (at l.row k) ≤ 2 ^ 55
