use Rattle.std.proofs.Common.{◌≡◌, ◌<◌, ◌-◌, ◌^◌, ◌*ℤ◌, ℕ, get_or, pos}
use Rattle.integer_algebra.specs.Sums.{at}
use Rattle.fast_machine.proofs.step.load_state.Given as goal

abbrev pub invariant-loop-i : goal.invariant-loop-i
invariant-loop-i l = (k : ℕ) → k < l.i → get_or l.out k (pos 0) ≡ at l.state k *ℤ pos (2 ^ (l.c.f - l.c.g))
