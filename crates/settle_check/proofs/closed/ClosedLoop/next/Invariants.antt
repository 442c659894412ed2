use Rattle.qp_model.specs.problem.Runs.{Holds}
use Rattle.integer_algebra.specs.Sums.{at}
use Rattle.settle_check.specs.Course.{next_row}
use Rattle.settle_check.proofs.closed.ClosedLoop.next.Given as goal

abbrev pub invariant-loop-k : goal.invariant-loop-k
invariant-loop-k l = Holds l.next.items l.k (next_row l.self (at l.row))
