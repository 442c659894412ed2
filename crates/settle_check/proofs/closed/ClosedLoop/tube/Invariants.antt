use Rattle.std.proofs.Common.{◌≡◌, ◌+◌, ◌<◌, ℕ}
use Rattle.mat_int.specs.Matrix.{HasEntries}
use Rattle.settle_check.specs.Still.{box_of}
use Rattle.settle_check.specs.Course.{end_at, tube_of, EndHasRoom}
use Rattle.settle_check.proofs.closed.ClosedLoop.tube.Given as goal

abbrev pub invariant-loop-i : goal.invariant-loop-i
invariant-loop-i l = record {
  end : l.i-end ≡ l.self.parts.now.states;
  entries : HasEntries l.i (l.turns + 1) (λ i t. end_at l.upper (tube_of l.self (box_of l.low l.high) t) i) l.tube;
  room : (i : ℕ) → i < l.i → EndHasRoom l.self (box_of l.low l.high) l.turns l.upper i;
}
