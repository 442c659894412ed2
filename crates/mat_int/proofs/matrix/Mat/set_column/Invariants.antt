use Rattle.std.proofs.Common.{◌≡◌, ◌≢◌, ℕ, ◌<◌, length}
use Rattle.std.specs.Prelude.{All}
use Rattle.integer_algebra.specs.Sums.{at}
use Rattle.mat_int.specs.Matrix.{entry_of}
use Rattle.mat_int.proofs.matrix.Mat.set_column.Given as goal

abbrev pub invariant-loop-i : goal.invariant-loop-i
invariant-loop-i l = record {
  rows : length l.self.rows ≡ length l.fn.self.rows;
  cols : l.self.cols ≡ l.fn.self.cols;
  even : All (λ row. length row ≡ l.fn.self.cols) l.self.rows;
  put : (r : ℕ) → r < l.i → entry_of l.self r l.j ≡ at l.numbers r;
  others : (r k : ℕ) → k ≢ l.j → entry_of l.self r k ≡ entry_of l.fn.self r k;
}
