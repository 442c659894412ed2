use Rattle.std.proofs.Common.{◌≡◌, ℕ, ◌<◌, ◌≤◌, ◌+ℤ◌, ◌*ℤ◌, get_or, pos}
use Rattle.overflow_check.specs.FastMachine.{step_weight}
use Rattle.fast_machine.proofs.word_step.word_add_times.Given as goal

abbrev pub invariant-loop-j : goal.invariant-loop-j
invariant-loop-j l = record {
  moved : (i : ℕ) → i < l.j → get_or l.sums i (pos 0) ≡ get_or l.fn.sums i (pos 0) +ℤ pos (step_weight l.k) *ℤ get_or l.numbers i (pos 0);
  others : (i : ℕ) → l.j ≤ i → get_or l.sums i (pos 0) ≡ get_or l.fn.sums i (pos 0);
}
