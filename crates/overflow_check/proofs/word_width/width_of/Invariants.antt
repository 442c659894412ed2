use Rattle.std.proofs.Common.{ℕ, ◌-◌, ◌^◌, ◌≤◌, ◌<◌}
use Rattle.overflow_check.proofs.word_width.width_of.Given as goal

abbrev pub invariant-loop-w : goal.invariant-loop-w
invariant-loop-w l = record {
  low : 2 ≤ l.w;
  high : l.w ≤ 128;
  below : (v : ℕ) → 2 ≤ v → v < l.w → 2 ^ (v - 1) ≤ l.greatest;
}

abbrev pub decreases-loop-w : goal.decreases-loop-w
decreases-loop-w l = 129 - l.w
