-- Matrices whose diagonal is moved by radii.
use Rattle.std.specs.Prelude.{◌≡◌, ℕ, ◌+◌, ◌<◌, ◌^◌, Bool, if◌then◌else◌, ℤ, pos, ◌+ℤ◌, ◌-ℤ◌, unsigned_abs, length}
use Rattle.integer_algebra.specs.Sizes.{size}
use Rattle.mat_int.specs.Matrix.{Matrix, entry_of}
use Rattle.hessian_check.specs.Curvature.{lowered, raised_diagonal}

-- a square matrix and one of its shape, whose rows leave room for their absolute values beside the diagonal
pub record IsMovable (m radii : Matrix) : Type 0 where
  pub square : m.cols ≡ length m.rows
  pub rows : length radii.rows ≡ length m.rows
  pub cols : radii.cols ≡ length m.rows
  pub room : (i : ℕ) → i < length m.rows → unsigned_abs (entry_of m i i) + size (length m.rows) (entry_of radii i) < 2 ^ 127

-- a number and another together, or what the other leaves of it
abbrev pub moved : Bool → ℤ → ℕ → ℤ
moved up x n = if up then x +ℤ pos n else x -ℤ pos n

-- a matrix with each diagonal entry raised, or lowered, by the number of its row
abbrev pub moved_diagonal : Bool → (ℕ → ℕ → ℤ) → (ℕ → ℕ) → ℕ → ℕ → ℤ
moved_diagonal up m by i j = if up then raised_diagonal m by i j else lowered m by i j
