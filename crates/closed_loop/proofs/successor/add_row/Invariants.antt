use Rattle.std.proofs.Common.{◌≡◌, ℕ, ◌<◌, ◌≤◌, ◌+ℤ◌, length}
use Rattle.integer_algebra.specs.Sums.{at}
use Rattle.closed_loop.proofs.successor.add_row.Given as goal

abbrev pub invariant-loop-i : goal.invariant-loop-i
invariant-loop-i l = record {
  long : length l.state ≡ length l.fn.state;
  before : (j : ℕ) → j < l.i → at l.state j ≡ at l.fn.state j +ℤ at l.row j;
  after : (j : ℕ) → l.i ≤ j → at l.state j ≡ at l.fn.state j;
}
