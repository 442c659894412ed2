use Rattle.std.proofs.Common.{◌≡◌}
use Rattle.integer_algebra.specs.Sums.{at}
use Rattle.integer_algebra.specs.Sizes.{size}
use Rattle.mat_int.proofs.row.absolute_sum.Given as goal

abbrev pub invariant-loop-x : goal.invariant-loop-x
invariant-loop-x l = l.sum ≡ size l.x-index (at l.xs)
