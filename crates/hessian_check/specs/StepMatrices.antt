-- Differences of two matrices with factors.
use Rattle.std.specs.Prelude.{ℕ, ◌+◌, ◌*◌, ◌<◌, ◌^◌, ℤ, pos, ◌-ℤ◌, ◌*ℤ◌, ◌≤ℤ◌, unsigned_abs, length}
use Rattle.mat_int.specs.Matrix.{Matrix, entry_of}
use Rattle.hessian_check.specs.Dominance.{IsSymmetric}
use Rattle.hessian_check.specs.Passing.{AreSquare}

-- x * a - y * b
abbrev pub mixed : ℤ → (ℕ → ℕ → ℤ) → ℤ → (ℕ → ℕ → ℤ) → ℕ → ℕ → ℤ
mixed x a y b i j = x *ℤ a i j -ℤ y *ℤ b i j

-- the absolute values that an entry of the difference adds up leave room
abbrev pub IsMixable : ℤ → Matrix → ℤ → Matrix → Type 0
IsMixable x a y b = (i j : ℕ) → i < length a.rows → j < length a.rows →
    unsigned_abs x * unsigned_abs (entry_of a i j) + unsigned_abs y * unsigned_abs (entry_of b i j) < 2 ^ 127

-- two symmetric matrices of one size, the cost's factor of at most 2^40, and the rows' factor
pub record AreMatrices (cost rows : Matrix) (cost_factor row_factor : ℤ) : Type 0 where
  pub shape : AreSquare cost rows
  pub cost_turned : IsSymmetric (length cost.rows) (entry_of cost)
  pub rows_turned : IsSymmetric (length cost.rows) (entry_of rows)
  pub cost_low : pos 0 ≤ℤ cost_factor
  pub cost_high : cost_factor ≤ℤ pos (2 ^ 40)
  pub row_low : pos 0 ≤ℤ row_factor
