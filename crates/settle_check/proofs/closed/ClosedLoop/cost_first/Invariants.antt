use Rattle.qp_model.specs.problem.Runs.{Holds}
use Rattle.settle_check.specs.Course.{plant, cost_first}
use Rattle.settle_check.proofs.closed.ClosedLoop.cost_first.Given as goal

abbrev pub invariant-loop-j : goal.invariant-loop-j
invariant-loop-j l = Holds l.row.items l.j (cost_first (plant l.self) l.upper l.k)
