use Rattle.std.proofs.Common.{◌≡◌, ℕ, ◌+◌, ◌<◌, ◌≤ℤ◌, length}
use Rattle.integer_algebra.specs.Sums.{at}
use Rattle.mat_int.specs.Matrix.{entry_of}
use Rattle.settle_check.proofs.text.is_part.Given as goal

abbrev pub invariant-loop-i : goal.invariant-loop-i
invariant-loop-i l = record {
  end : l.i-end ≡ length l.low;
  inside : (k : ℕ) → k < l.i → (at l.low k ≤ℤ entry_of l.rows 1 k) × (entry_of l.rows 1 (length l.low + k) ≤ℤ at l.high k);
}
