use Rattle.std.proofs.Common.{◌≡◌, unsigned_abs}
use Rattle.qp_model.specs.form.Columns.{solve_matrix}
use Rattle.qp_model.specs.form.Quantities.{greatest}
use Rattle.condensed_form.specs.Form.{held}
use Rattle.step_error.proofs.real_gains.Gains.greatest_diagonal.Given as goal

abbrev pub invariant-loop-j : goal.invariant-loop-j
invariant-loop-j l = l.most ≡ greatest l.j (λ j. unsigned_abs (solve_matrix (held l.self.c.now) j j))
