use Rattle.std.proofs.Common.{◌≡◌, length}
use Rattle.approx_inverse.proofs.guess.shifts_of.Given as goal

abbrev pub invariant-loop-i : goal.invariant-loop-i
invariant-loop-i l = length l.shifts.items ≡ l.i
