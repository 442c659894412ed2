use Rattle.std.proofs.Common.{◌≡◌, ◌≤◌, ◌^◌}
use Rattle.integer_algebra.specs.Sums.{at}
use Rattle.integer_algebra.specs.Sizes.{size}
use Rattle.settle_check.specs.ClosedRows.{rounded_row}
use Rattle.settle_check.specs.Course.{plant}
use Rattle.settle_check.proofs.closed.ClosedLoop.rounded_sum.Given as goal

abbrev pub invariant-loop-i : goal.invariant-loop-i
invariant-loop-i l = record {
  end : l.i-end ≡ l.self.parts.now.states;
  sum : l.sum ≡ size l.i (rounded_row (plant l.self) (at l.row));
  room : l.sum ≤ 2 ^ 126;
}
