-- Lists that hold the values of functions.
use Rattle.std.specs.Prelude.{◌≡◌, ℕ, zero, suc, nat_lt, if◌then◌else◌, ◌+◌, ◌-◌, ◌*◌, ◌%◌, ◌<◌, ℤ, List, length}
use Rattle.integer_algebra.specs.Sums.{at}
use Rattle.mat_int.specs.Matrix.{Matrix, row_of, entry_of, with_entry}
use Rattle.qp_model.specs.problem.Design.{LimitRow}
use Rattle.qp_model.specs.declared.design_parts.DesignParts.{DesignParts}

-- the numbers of a stage row, without its bound
abbrev pub row_of_numbers : DesignParts → List ℤ → LimitRow
row_of_numbers p row = record { of_state = at row; of_input = λ l. at row (p.states + l); bound = at row (p.states + p.inputs) }

-- a matrix whose first `known` columns hold the values of f
pub record HoldsMatrix (m : Matrix) (height width known : ℕ) (f : ℕ → ℕ → ℤ) : Type 0 where
  pub long : length m.rows ≡ height
  pub wide : m.cols ≡ width
  pub regular : (i : ℕ) → i < height → length (row_of m i) ≡ width
  pub is : (i j : ℕ) → i < height → j < known → entry_of m i j ≡ f i j

-- the matrix with the first n numbers of a list in column j
abbrev pub with_column : ℕ → Matrix → ℕ → List ℤ → Matrix
with_column zero m j xs = m
with_column (suc i) m j xs = with_entry (with_column i m j xs) i j (at xs i)

-- a number of each row, where a stage's rows stand once for each stage and the final rows after them: column j of those, column k of these
abbrev pub stacked : ℕ → Matrix → ℕ → Matrix → ℕ → ℕ → ℤ
stacked stages m j last k i = if nat_lt i (stages * length m.rows) then entry_of m (i % length m.rows) j else entry_of last (i - stages * length m.rows) k
