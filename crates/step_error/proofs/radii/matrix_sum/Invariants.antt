use Rattle.std.proofs.Common.{◌≡◌}
use Rattle.integer_algebra.specs.Sizes.{size, amount}
use Rattle.mat_int.specs.Matrix.{entry_of}
use Rattle.step_error.proofs.radii.matrix_sum.Given as goal

abbrev pub invariant-loop-i : goal.invariant-loop-i
invariant-loop-i l = l.sum ≡ amount l.i (λ i. size l.mat.cols (entry_of l.mat i))
