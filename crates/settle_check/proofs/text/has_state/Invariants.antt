use Rattle.std.proofs.Common.{◌≡◌, ℕ, ◌+◌, ◌<◌, ◌≤ℤ◌, length}
use Rattle.mat_int.specs.Matrix.{entry_of}
use Rattle.settle_check.proofs.text.has_state.Given as goal

abbrev pub invariant-loop-i : goal.invariant-loop-i
invariant-loop-i l = record {
  end : l.i-end ≡ length l.low;
  inside : (k : ℕ) → k < l.i → entry_of l.rows 0 k ≤ℤ entry_of l.rows 0 (length l.low + k);
}
