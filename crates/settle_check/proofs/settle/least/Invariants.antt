use Rattle.std.proofs.Common.{◌≡◌, ◌-◌, ◌≤◌}
use Rattle.settle_check.specs.Settling.{hull}
use Rattle.settle_check.specs.Tubes.{tube_at}
use Rattle.settle_check.proofs.settle.least.Given as goal

abbrev pub invariant-loop-turn : goal.invariant-loop-turn
invariant-loop-turn l = record {
  from : 1 ≤ l.turn;
  hull : l.least ≡ (hull (tube_at l.tube) (l.turn - 1)).low l.i;
}
