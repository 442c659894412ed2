use Rattle.std.proofs.Common.{◌≡◌, ◌^◌, ◌≤◌, length}
use Rattle.integer_algebra.specs.Sizes.{amount}
use Rattle.step_error.specs.ErrorSums.{farthest_entry, entry_error}
use Rattle.step_error.proofs.sums.gradient_squares.Given as goal

abbrev pub invariant-loop-j : goal.invariant-loop-j
invariant-loop-j l = record {
  is : l.squares ≡ amount l.j (λ j. entry_error (length l.hess.rows) (farthest_entry l.hess l.radii) l.scale l.combined j ^ 2);
  small : l.squares ≤ 2 ^ 126;
}
