use Rattle.std.proofs.Common.{ℕ, ◌<◌, ◌^◌, pos, ◌*ℤ◌, ◌≤ℤ◌}
use Rattle.integer_algebra.specs.Sums.{at}
use Rattle.corner_margin.proofs.lists.first_short.Given as goal

abbrev pub invariant-loop-i : goal.invariant-loop-i
invariant-loop-i l = (k : ℕ) → k < l.i → l.den ≤ℤ (pos (2 ^ 16) *ℤ at l.slacks k)
