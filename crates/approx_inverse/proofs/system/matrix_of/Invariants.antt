use Rattle.std.proofs.Common.{◌≡◌, ℕ, ◌<◌, length}
use Rattle.mat_int.specs.Matrix.{entry_of}
use Rattle.qp_model.specs.form.Columns.{solve_matrix}
use Rattle.condensed_form.specs.Form.{held}
use Rattle.approx_inverse.proofs.system.matrix_of.Given as goal

abbrev pub invariant-loop-i : goal.invariant-loop-i
invariant-loop-i l = record {
  rows : length l.mat.rows ≡ l.i;
  cols : l.mat.cols ≡ (held l.c).entries;
  entry : (i j : ℕ) → i < l.i → j < (held l.c).entries → entry_of l.mat i j ≡ solve_matrix (held l.c) i j;
}
