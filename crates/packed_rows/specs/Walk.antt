-- A walk along the rows of a matrix.
use Rattle.std.specs.Prelude.{ℕ, ℤ, List}
use Rattle.mat_int.specs.Matrix.{Matrix}

-- all rows, which of them comes next, from 0, and the last one that was stepped on
pub record Walk : Type 0 where
  pub rows : Matrix
  pub next : ℕ
  pub row : List ℤ
