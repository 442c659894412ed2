use Rattle.std.proofs.Common.{◌≡◌, ◌*ℤ◌}
use Rattle.integer_algebra.specs.Sums.{at, total, square}
use Rattle.corner_margin.proofs.lists.weighted_squares.Given as goal

abbrev pub invariant-loop-i : goal.invariant-loop-i
invariant-loop-i l = l.sum ≡ total l.i (λ j. at l.weights j *ℤ square (at l.xs j))
