use Rattle.std.proofs.Common.{◌-ℤ◌}
use Rattle.integer_algebra.specs.Sums.{at}
use Rattle.enclosure.specs.Values.{pair_at}
use Rattle.qp_model.specs.problem.Runs.{Holds}
use Rattle.corner_margin.proofs.lists.slacks.Given as goal

abbrev pub invariant-loop-i : goal.invariant-loop-i
invariant-loop-i l = Holds l.out.items l.i (λ i. at l.bounds i -ℤ (pair_at l.values i).mid -ℤ (pair_at l.values i).rad)
