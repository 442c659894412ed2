-- The sizes of a rough root.
use Rattle.std.specs.Prelude.{◌≡◌, ℕ, length}
use Rattle.approx_inverse.specs.declared.guess.Root.{Root}

-- it has n rows, of n entries
pub record HasRootSizes (n : ℕ) (r : Root) : Type 0 where
  pub lower_rows : length r.lower.rows ≡ n
  pub lower_cols : r.lower.cols ≡ n
  pub upper_rows : length r.upper.rows ≡ n
  pub upper_cols : r.upper.cols ≡ n
  pub diagonal : length r.diagonal.items ≡ n
  pub shifts : length r.shifts.items ≡ n
