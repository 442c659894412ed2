use Rattle.std.proofs.Common.{◌≡◌, ◌<◌, ℕ}
use Rattle.qp_model.specs.problem.Runs.{Holds}
use Rattle.settle_check.specs.Settling.{told_rows}
use Rattle.settle_check.specs.Course.{plant, end_at, costs_of, CostEndHasRoom}
use Rattle.settle_check.proofs.closed.ClosedLoop.costs.Given as goal

abbrev pub invariant-loop-k : goal.invariant-loop-k
invariant-loop-k l = record {
  end : l.k-end ≡ told_rows (plant l.self) l.turns;
  ends : Holds l.ends.items l.k (end_at l.upper (costs_of l.self l.turns));
  room : (k : ℕ) → k < l.k → CostEndHasRoom l.self l.turns l.upper k;
}
