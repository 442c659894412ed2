use Rattle.std.proofs.Common.{◌≡◌, ◌-◌, length}
use Rattle.qp_model.specs.problem.Runs.{Holds}
use Rattle.settle_check.specs.Settling.{hull}
use Rattle.settle_check.specs.Tubes.{tube_at}
use Rattle.settle_check.proofs.settle.hull_of.Given as goal

abbrev pub invariant-loop-i : goal.invariant-loop-i
invariant-loop-i l = record {
  end : l.i-end ≡ length l.tube.lows.rows;
  low : Holds l.low.items l.i (hull (tube_at l.tube) (l.turns - 1)).low;
  high : Holds l.high.items l.i (hull (tube_at l.tube) (l.turns - 1)).high;
}
