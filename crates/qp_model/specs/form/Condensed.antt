-- The condensed form: the cost and the limits as functions of the plan alone.
use Rattle.std.specs.Prelude.{◌≡◌, ℕ, ◌^◌, ◌<◌, ℤ, pos, ◌+ℤ◌, ◌-ℤ◌, ◌*ℤ◌}
use Rattle.integer_algebra.specs.Sums.{dot, image, none}
use Rattle.qp_model.specs.problem.Design.{Design, entries, rows}
use Rattle.qp_model.specs.problem.Cost.{cost}
use Rattle.qp_model.specs.problem.Residual.{residual}

-- The condensed form of a design, as whole numbers. The hessian H, the linear part F and the constant h0 are over
-- cost_denominator * (row_denominator * plant_denominator^stages)^2; the rows G of the plan, E of the state and the bound b are over
-- limit_denominator * plant_denominator^stages.
pub record Condensed : Type 0 where
  pub hessian : ℕ → ℕ → ℤ
  pub linear : ℕ → ℕ → ℤ
  pub constant : ℕ → ℤ
  pub by_plan : ℕ → ℕ → ℤ
  pub by_state : ℕ → ℕ → ℤ
  pub bound : ℕ → ℤ

-- the gradient's part F x + h0 at xi, as a numerator over cost_denominator * (row_denominator * plant_denominator^stages)^2 * 2^grid
abbrev pub slope_at : Design → Condensed → (ℕ → ℤ) → ℕ → ℤ
slope_at d k xi j = image d.states k.linear xi j +ℤ pos (2 ^ d.grid) *ℤ k.constant j

-- entry j of H u + F x + h0, the gradient of the cost at a plan u over q, as a numerator over `cost_scale d` * q
abbrev pub gradient_at : Design → Condensed → ℤ → (xi u : ℕ → ℤ) → ℕ → ℤ
gradient_at d k q xi u j = pos (4 ^ d.grid) *ℤ image (entries d) k.hessian u j +ℤ (pos (2 ^ d.grid) *ℤ q) *ℤ slope_at d k xi j

-- what makes numbers the condensed form: two equations, at every state and plan
pub record IsCondensed (d : Design) (k : Condensed) : Type 0 where
  pub symmetric : (i j : ℕ) → i < entries d → j < entries d → k.hessian i j ≡ k.hessian j i
  -- c(xi, u) = G u + E x - b
  pub rows : (q : ℤ) (xi u : ℕ → ℤ) (i : ℕ) → i < rows d →
      residual d q xi u i ≡ pos (2 ^ d.grid) *ℤ image (entries d) k.by_plan u i +ℤ
      q *ℤ (image d.states k.by_state xi i -ℤ pos (2 ^ d.grid) *ℤ k.bound i)
  -- 2 V(xi, u) = 2 V(xi, 0) + u'Hu + 2 (F x + h0)'u
  pub costs : (q : ℤ) (xi u : ℕ → ℤ) →
      pos 2 *ℤ cost d q xi u ≡ pos 2 *ℤ cost d q xi none +ℤ
      pos (4 ^ d.grid) *ℤ dot (entries d) u (image (entries d) k.hessian u) +ℤ
      pos 2 *ℤ (pos (2 ^ d.grid) *ℤ q) *ℤ dot (entries d) (slope_at d k xi) u
