-- The matrices of a design.
use Rattle.std.specs.Prelude.{◌≡◌, ℕ, ◌≤◌, ◌<◌, ◌^◌, Bool, ℤ, length}
use Rattle.integer_algebra.specs.Sizes.{amount, size}
use Rattle.mat_int.specs.Matrix.{Matrix, entry_of, HasEntries}
use Rattle.qp_model.specs.problem.Design.{Design, entries}
use Rattle.qp_model.specs.form.Class.{cost_row_in}
use Rattle.qp_model.specs.form.CurvatureSize.{curvature_of}
use Rattle.hessian_check.specs.declared.matrices.StepMatrices.{StepMatrices}
use Rattle.hessian_check.specs.Curvature.{exponent_matrix, lowered, raised_diagonal}
use Rattle.hessian_check.specs.Dominance.{AreSame}
use Rattle.hessian_check.specs.MatrixRoom.{matrix_at, HasMatrixRoom}
use Rattle.hessian_check.specs.Steps.{held_by, held_in, weighted_of}

-- the quantity `curvature` of a class's form, where the squares ask the exponent s and a row of the products comes to `most`
abbrev pub size_at : (fine : Bool) → Design → (most : ℕ) → ℕ → ℕ
size_at fine d most s = curvature_of s d.limit_denominator (cost_row_in fine d) d.cost_denominator d.row_denominator most

-- a square matrix with these entries, none of whose rows comes to more than `most`
pub record IsHeldMatrix (n : ℕ) (entry : ℕ → ℕ → ℤ) (most : ℕ) (m : Matrix) : Type 0 where
  pub is : HasEntries n n entry m
  pub row : (i : ℕ) → i < n → size n (entry_of m i) ≤ most

-- half the hessian, with each diagonal entry lowered by the radii of its row
abbrev pub IsCostMatrix : (fine : Bool) → Design → Matrix → Type 0
IsCostMatrix fine d =
    IsHeldMatrix (entries d) (lowered (held_in fine d).half (λ i. amount (entries d) ((held_in fine d).half_radius i))) (cost_row_in fine d)

-- the products of the rows, each as often as its row counts, with each diagonal entry raised by the radii of its row
abbrev pub IsRowMatrix : (fine : Bool) → Design → (weight : ℕ → ℕ) → (most : ℕ) → Matrix → Type 0
IsRowMatrix fine d weight =
    IsHeldMatrix (entries d) (raised_diagonal (held_by fine d weight).products (λ i. amount (entries d) ((held_by fine d weight).products_radius i)))

-- these are the matrices of the design and of how often its rows count, and leave room where the quantity is within its limit
pub record AreMatricesOf (fine : Bool) (d : Design) (weight : ℕ → ℕ) (most : ℕ) (g : StepMatrices) : Type 0 where
  pub size : length g.cost.rows ≡ entries d
  pub same : (s : ℕ) → AreSame (entries d) (matrix_at g s) (exponent_matrix (weighted_of d weight) (held_by fine d weight) s)
  pub room : (s : ℕ) → size_at fine d most s ≤ 2 ^ 126 → HasMatrixRoom g s
