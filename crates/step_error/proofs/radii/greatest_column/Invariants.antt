use Rattle.std.proofs.Common.{◌≡◌, length}
use Rattle.integer_algebra.specs.Sizes.{size}
use Rattle.mat_int.specs.Matrix.{entry_of}
use Rattle.qp_model.specs.form.Quantities.{greatest}
use Rattle.step_error.proofs.radii.greatest_column.Given as goal

abbrev pub invariant-loop-j : goal.invariant-loop-j
invariant-loop-j l = l.most ≡ greatest l.j (λ j. size (length l.mat.rows) (λ i. entry_of l.mat i j))
