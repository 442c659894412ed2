use Rattle.std.proofs.Common.{◌≡◌, ℕ, ◌<◌, pos, vec_len}
use Rattle.qp_model.specs.form.Columns.{column_bound}
use Rattle.condensed_form.specs.Form.{held}
use Rattle.approx_inverse.specs.Inverse.{HasGainSizes, solution_of}
use Rattle.controller_maker.proofs.widest.widest_gains.Given as goal

abbrev pub invariant-loop-i : goal.invariant-loop-i
invariant-loop-i l = record {
  long : vec_len l.line ≡ (held l.c).entries;
  sizes : HasGainSizes l.gains (held l.c).entries (held l.c).states (held l.c).rows;
  each : (i j : ℕ) → i < l.i → j < (held l.c).entries → solution_of l.gains i j ≡ pos (column_bound (held l.c) l.f i);
}
