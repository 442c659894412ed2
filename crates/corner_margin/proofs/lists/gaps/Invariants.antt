use Rattle.std.proofs.Common.{◌+ℤ◌, ◌-ℤ◌}
use Rattle.integer_algebra.specs.Bounds.{absolute}
use Rattle.integer_algebra.specs.Sums.{at}
use Rattle.enclosure.specs.Values.{pair_at}
use Rattle.qp_model.specs.problem.Runs.{Holds}
use Rattle.corner_margin.proofs.lists.gaps.Given as goal

abbrev pub invariant-loop-i : goal.invariant-loop-i
invariant-loop-i l = Holds l.out.items l.i (λ i. absolute ((pair_at l.values i).mid -ℤ at l.targets i) +ℤ (pair_at l.values i).rad)
