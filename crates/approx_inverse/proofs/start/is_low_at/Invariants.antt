use Rattle.std.proofs.Common.{◌^◌, pos, ◌-ℤ◌, ◌*ℤ◌, ◌≤ℤ◌}
use Rattle.integer_algebra.specs.Sums.{at, total}
use Rattle.approx_inverse.specs.Descent.{aim}
use Rattle.approx_inverse.proofs.start.is_low_at.Given as goal

abbrev pub invariant-loop-i : goal.invariant-loop-i
invariant-loop-i l = total l.i (λ k. at l.x k *ℤ (at l.rest k -ℤ aim l.f l.c k)) ≤ℤ (pos (2 ^ l.p) *ℤ pos (2 ^ l.q) *ℤ l.sum)
