use Rattle.std.proofs.Common.{◌≡◌, ℕ, ◌<◌, ◌≤ℤ◌, length}
use Rattle.integer_algebra.specs.Sums.{at}
use Rattle.condensed_form.proofs.denominators.least_of.Given as goal

abbrev pub invariant-loop-number : goal.invariant-loop-number
invariant-loop-number l = ((k : ℕ) → k < l.number-index → l.least ≤ℤ at l.numbers k) × ((k : ℕ) × ((k < length l.numbers) × (l.least ≡ at l.numbers k)))
