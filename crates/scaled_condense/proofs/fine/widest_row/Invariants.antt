use Rattle.std.proofs.Common.{◌≡◌}
use Rattle.qp_model.specs.form.Quantities.{greatest}
use Rattle.qp_model.specs.problem.Parts.{design_of}
use Rattle.qp_model.specs.form.FineForm.{hessian_row_radius}
use Rattle.scaled_condense.proofs.fine.widest_row.Given as goal

abbrev pub invariant-loop-i : goal.invariant-loop-i
invariant-loop-i l = l.most ≡ greatest l.i (hessian_row_radius (design_of l.parts))
