-- What solving asks of the numbers of a condensed form, and the matrix that it makes of them.
use Rattle.std.specs.Prelude.{◌≡◌, ℕ, ◌^◌, ◌<◌, pos, ◌≤ℤ◌, length}
use Rattle.mat_int.specs.Matrix.{Matrix, entry_of}
use Rattle.qp_model.specs.form.Form.{Form}
use Rattle.qp_model.specs.form.Columns.{solve_matrix}
use Rattle.qp_model.specs.form.Convex.{IsConvex}
use Rattle.condensed_form.specs.Form.{HasShapes, held}
use Rattle.condensed_form.specs.declared.condensed.Condensed.{Condensed}

-- numbers of a design's condensed form, as far as solving goes
pub record IsSolvable (c : Condensed) : Type 0 where
  pub shapes : HasShapes c (held c).entries (held c).states (held c).rows
  pub convex : IsConvex (held c).entries (solve_matrix (held c)) c.floor
  pub limit_den : pos 1 ≤ℤ c.limit_den
  pub cost_row_den : pos 1 ≤ℤ c.cost_row_den
  pub power : pos 1 ≤ℤ c.power
  pub few_entries : (held c).entries < 2 ^ 32
  pub few_states : (held c).states < 2 ^ 32
  pub few_rows : (held c).rows < 2 ^ 32

-- the matrix that the columns are solved with
pub record IsMatrixOf (h : Form) (m : Matrix) : Type 0 where
  pub rows : length m.rows ≡ h.entries
  pub cols : m.cols ≡ h.entries
  pub entry : (i j : ℕ) → i < h.entries → j < h.entries → entry_of m i j ≡ solve_matrix h i j
