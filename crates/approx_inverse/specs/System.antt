-- The systems that are solved.
use Rattle.std.specs.Prelude.{◌≡◌, ℕ, ℤ, length}
use Rattle.mat_int.specs.Matrix.{Matrix, entry_of}
use Rattle.qp_model.specs.form.Convex.{IsConvex}

-- a convex matrix of n rows and columns
pub record IsSystem (h : Matrix) (n : ℕ) (floor : ℤ) : Type 0 where
  pub rows : length h.rows ≡ n
  pub cols : h.cols ≡ n
  pub convex : IsConvex n (entry_of h) floor
