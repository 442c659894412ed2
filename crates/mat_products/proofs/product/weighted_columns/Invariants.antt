use Rattle.std.proofs.Common.{◌≡◌, ℕ, ◌<◌, ◌*ℤ◌, length}
use Rattle.std.specs.Prelude.{All}
use Rattle.integer_algebra.specs.Sums.{at}
use Rattle.mat_int.specs.Matrix.{entry_of}
use Rattle.mat_products.proofs.product.weighted_columns.Given as goal

abbrev pub invariant-loop-i : goal.invariant-loop-i
invariant-loop-i l = record {
  column : length l.column.items ≡ l.g.cols;
  rows : length l.weighted.rows ≡ l.g.cols;
  cols : l.weighted.cols ≡ length l.g.rows;
  even : All (λ row. length row ≡ length l.g.rows) l.weighted.rows;
  entries : (j k : ℕ) → j < l.g.cols → k < l.i → entry_of l.weighted j k ≡ at l.weights k *ℤ entry_of l.g k j;
}
