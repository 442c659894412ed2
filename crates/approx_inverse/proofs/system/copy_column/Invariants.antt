use Rattle.std.proofs.Common.{◌≡◌, ℕ, ◌<◌}
use Rattle.integer_algebra.specs.Sums.{at}
use Rattle.mat_int.specs.Matrix.{entry_of}
use Rattle.approx_inverse.proofs.system.copy_column.Given as goal

abbrev pub invariant-loop-j : goal.invariant-loop-j
invariant-loop-j l = (k : ℕ) → k < l.j → at l.out k ≡ entry_of l.mat k l.i
