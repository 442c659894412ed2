use Rattle.std.proofs.Common.{ℕ, ◌<◌, ◌^◌, ◌↔◌, ◌≤ℤ◌, IsTrue, length, get_or, []}
use Rattle.integer_algebra.specs.Matrices.{off_diagonal_sum}
use Rattle.mat_int.specs.Matrix.{entry_of}
use Rattle.mat_int.specs.Row.{abs_sum}
use Rattle.mat_int.proofs.matrix.Mat.is_dominant.Given as goal

abbrev pub invariant-loop-i : goal.invariant-loop-i
invariant-loop-i l = record {
  value : IsTrue l.dominant ↔ ((k : ℕ) → k < l.i → off_diagonal_sum (length l.self.rows) (entry_of l.self) k ≤ℤ entry_of l.self k k);
  narrow : (k : ℕ) → k < l.i → abs_sum (get_or l.self.rows k []) < 2 ^ 127;
}
