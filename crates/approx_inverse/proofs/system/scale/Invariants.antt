use Rattle.std.proofs.Common.{◌≡◌, ℕ, ◌<◌, ◌≤◌, ◌*ℤ◌}
use Rattle.integer_algebra.specs.Sums.{at}
use Rattle.approx_inverse.proofs.system.scale.Given as goal

abbrev pub invariant-loop-x : goal.invariant-loop-x
invariant-loop-x l = record {
  done : (j : ℕ) → j < l.x-index → at l.xs j ≡ l.k *ℤ at l.fn.xs j;
  left : (j : ℕ) → l.x-index ≤ j → at l.xs j ≡ at l.fn.xs j;
}
