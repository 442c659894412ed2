use Rattle.std.proofs.Common.{◌≡◌, ◌*◌, ◌^◌, ◌≤◌}
use Rattle.integer_algebra.specs.Sizes.{size}
use Rattle.mat_int.specs.Matrix.{entry_of}
use Rattle.qp_model.proofs.sizes.column_sum.Given as goal

abbrev pub invariant-loop-r : goal.invariant-loop-r
invariant-loop-r l = (l.sum ≡ size l.r (λ r. entry_of l.mat r l.column)) × (l.sum ≤ 2 ^ 31 * l.r)
