use Rattle.std.proofs.Common.{◌≡◌}
use Rattle.integer_algebra.specs.Sizes.{size}
use Rattle.mat_int.specs.Matrix.{entry_of}
use Rattle.qp_model.specs.form.Quantities.{greatest}
use Rattle.qp_model.proofs.sizes.greatest_width.Given as goal

abbrev pub invariant-loop-r : goal.invariant-loop-r
invariant-loop-r l = l.most ≡ greatest l.r (λ r. size l.width (entry_of l.mat r))
