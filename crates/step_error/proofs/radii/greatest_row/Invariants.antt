use Rattle.std.proofs.Common.{◌≡◌}
use Rattle.integer_algebra.specs.Sizes.{size}
use Rattle.mat_int.specs.Matrix.{entry_of}
use Rattle.qp_model.specs.form.Quantities.{greatest}
use Rattle.step_error.proofs.radii.greatest_row.Given as goal

abbrev pub invariant-loop-i : goal.invariant-loop-i
invariant-loop-i l = l.most ≡ greatest l.i (λ i. size l.mat.cols (entry_of l.mat i))
