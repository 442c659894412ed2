use Rattle.std.proofs.Common.{ℕ, ◌<◌, ◌^◌, ◌*◌, ◌≤◌}
use Rattle.condensed_form.proofs.squares.least_power.Given as goal

abbrev pub invariant-loop-s : goal.invariant-loop-s
invariant-loop-s l = (k : ℕ) → k < l.s → ¬ (l.need ≤ 2 ^ k * l.unit)
