-- What the solutions of a condensed form are.
use Rattle.std.specs.Prelude.{◌≡◌, ℕ, ◌+◌, ◌-◌, ◌<◌, ◌≤◌, ◌^◌, ℤ, nat_lt, ◌==◌, if◌then◌else◌, length}
use Rattle.integer_algebra.specs.Sums.{at}
use Rattle.mat_int.specs.Matrix.{entry_of}
use Rattle.qp_model.specs.machine.Controller.{HasShape}
use Rattle.qp_model.specs.form.GoodSolution.{IsGood}
use Rattle.qp_model.specs.form.Form.{Form}
use Rattle.qp_model.specs.form.Columns.{columns, column_bound, solve_matrix, solve_column}
use Rattle.approx_inverse.specs.DescentSize.{EachWithin, descent_of_column}
use Rattle.approx_inverse.specs.declared.inverse.Inverse.{Inverse}

-- nu plan entries, n states and m limit rows
pub record HasGainSizes (v : Inverse) (nu n m : ℕ) : Type 0 where
  pub p_mat : HasShape v.p_mat nu n
  pub t : length v.t.items ≡ nu
  pub w_mat : HasShape v.w_mat nu m

-- entry j of the solution for column i: those for the states, that for the constant, and those for the limit rows
abbrev pub solution_of : Inverse → ℕ → ℕ → ℤ
solution_of v i j =
    if nat_lt i v.p_mat.cols then entry_of v.p_mat j i
    else if i == v.p_mat.cols then at v.t.items j
    else entry_of v.w_mat j (i - (v.p_mat.cols + 1))

-- each column is a good solution at f bits of the form's matrix, and within its bound
pub record IsInverseOf (h : Form) (f : ℕ) (v : Inverse) : Type 0 where
  pub sizes : HasGainSizes v h.entries h.states h.rows
  pub good : (i : ℕ) → i < columns h → IsGood h.entries (solve_matrix h) f (solve_column h i) (solution_of v i)
  pub within : (i : ℕ) → i < columns h → EachWithin h.entries (column_bound h f i) (solution_of v i)

-- x is a good solution for column i of a form, within its bound, and its descent had room
pub record IsSolution (h : Form) (f i : ℕ) (x : ℕ → ℤ) : Type 0 where
  pub good : IsGood h.entries (solve_matrix h) f (solve_column h i) x
  pub within : EachWithin h.entries (column_bound h f i) x
  pub room : descent_of_column h.entries (solve_matrix h) (solve_column h i) h.floor f ≤ 2 ^ 126

-- the solutions of a form
pub record SolvesForm (h : Form) (f : ℕ) (v : Inverse) : Type 0 where
  pub sizes : HasGainSizes v h.entries h.states h.rows
  pub solved : (i : ℕ) → i < columns h → IsSolution h f i (solution_of v i)
