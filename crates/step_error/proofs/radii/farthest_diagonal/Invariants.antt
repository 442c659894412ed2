use Rattle.std.proofs.Common.{◌≡◌}
use Rattle.integer_algebra.specs.Sizes.{amount}
use Rattle.step_error.specs.ErrorSums.{farthest_entry}
use Rattle.step_error.proofs.radii.farthest_diagonal.Given as goal

abbrev pub invariant-loop-j : goal.invariant-loop-j
invariant-loop-j l = l.sum ≡ amount l.j (λ j. farthest_entry l.mat l.radii j j)
