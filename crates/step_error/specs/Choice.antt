-- The choice of a number of fraction bits.
use Rattle.std.specs.Prelude.{ℕ, ◌<◌, ◌≤◌}
use Rattle.qp_model.specs.bounds.Errors.{ErrorSums, epsilon}

-- f is the least number from `low` to 48 at which the errors of a step are within the limit
pub record IsChoice (sums : ErrorSums) (low limit f : ℕ) : Type 0 where
  pub from : low ≤ f
  pub to : f ≤ 48
  pub within : epsilon sums f ≤ limit
  pub least : (k : ℕ) → low ≤ k → k < f → limit < epsilon sums k
