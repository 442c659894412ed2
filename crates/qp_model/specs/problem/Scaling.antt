-- A plan over a multiple of its denominator.
use Rattle.std.specs.Prelude.{◌≡◌, ℕ, ℤ, ◌*ℤ◌}
use Rattle.integer_algebra.specs.Sums.{square}
use Rattle.qp_model.specs.problem.Design.{Design}
use Rattle.qp_model.specs.problem.Cost.{cost}
use Rattle.qp_model.specs.problem.Residual.{residual}

-- what a plan over q costs, and how far it breaks the rows, with its numerators and q times c
pub record IsScaledPlan (d : Design) (c q : ℤ) (xi u : ℕ → ℤ) : Type 0 where
  pub costs : cost d (c *ℤ q) xi (λ j. c *ℤ u j) ≡ square c *ℤ cost d q xi u
  pub residuals : (i : ℕ) → residual d (c *ℤ q) xi (λ j. c *ℤ u j) i ≡ c *ℤ residual d q xi u i

-- so that a plan may be written over any multiple of its denominator
abbrev pub ScalingLaw : Type 0
ScalingLaw = (d : Design) (c q : ℤ) (xi u : ℕ → ℤ) → IsScaledPlan d c q xi u
