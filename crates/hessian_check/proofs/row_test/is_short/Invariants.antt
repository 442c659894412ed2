use Rattle.std.proofs.Common.{ℕ, ◌<◌, ◌≤◌, ◌^◌, unsigned_abs}
use Rattle.mat_int.specs.Matrix.{entry_of}
use Rattle.hessian_check.proofs.row_test.is_short.Given as goal

abbrev pub invariant-loop-i : goal.invariant-loop-i
invariant-loop-i l = (k j : ℕ) → k < l.i → j < l.root.cols → unsigned_abs (entry_of l.root k j) ≤ 2 ^ 55
