use Rattle.std.proofs.Common.{◌≡◌, ◌^◌, ◌≤◌}
use Rattle.integer_algebra.specs.Sizes.{amount}
use Rattle.step_error.specs.RunSums.{error_with_mean}
use Rattle.step_error.proofs.runs.mean_squares.Given as goal

abbrev pub invariant-loop-j : goal.invariant-loop-j
invariant-loop-j l = record {
  is : l.squares ≡ amount l.j (λ j. error_with_mean l.c l.combined l.s l.exps j ^ 2);
  small : l.squares ≤ 2 ^ 126;
}
