-- The matrices of exponents, and where they leave room.
use Rattle.std.specs.Prelude.{ℕ, ◌+◌, ◌*◌, ◌<◌, ◌^◌, ℤ, unsigned_abs, length}
use Rattle.integer_algebra.specs.Sizes.{size}
use Rattle.mat_int.specs.Matrix.{entry_of}
use Rattle.hessian_check.specs.declared.matrices.StepMatrices.{StepMatrices}
use Rattle.hessian_check.specs.Curvature.{difference}

-- the matrix of s
abbrev pub matrix_at : StepMatrices → ℕ → ℕ → ℕ → ℤ
matrix_at g = difference g.cost_factor g.row_factor (entry_of g.cost) (entry_of g.rows)

-- the absolute values that a row of the matrix of s adds up leave room
abbrev pub HasMatrixRoom : StepMatrices → ℕ → Type 0
HasMatrixRoom g s = (i : ℕ) → i < length g.cost.rows →
    2 ^ s * unsigned_abs g.cost_factor * size (length g.cost.rows) (entry_of g.cost i) +
    unsigned_abs g.row_factor * size (length g.cost.rows) (entry_of g.rows i) < 2 ^ 127
