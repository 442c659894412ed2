-- The curvature of the cost, and exponents of the step.
use Rattle.std.specs.Prelude.{ℕ, ◌-◌, ◌*◌, ◌^◌, ◌<◌, ◌≤◌, ℤ, pos, ◌-ℤ◌, ◌*ℤ◌, ◌≤ℤ◌}
use Rattle.integer_algebra.specs.Sums.{total, square, none}
use Rattle.qp_model.specs.problem.Design.{Design, CostRow, rows}
use Rattle.qp_model.specs.problem.Cost.{cost_by, cost_scale}
use Rattle.qp_model.specs.problem.Residual.{residual, residual_scale}

-- the curvature Vq(v), as a numerator over `cost_scale d`: the cost from the state 0 with every target 0
abbrev pub untargeted : CostRow → CostRow
untargeted r = record r { target = pos 0 }

abbrev pub curvature : Design → (ℕ → ℤ) → ℤ
curvature d v = cost_by d (λ r. untargeted (d.stage_cost r)) (λ r. untargeted (d.final_cost r)) (pos 1) none v

-- c_i(0, v) - c_i(0, 0), as a numerator over `residual_scale d`
abbrev pub row_change : Design → (ℕ → ℤ) → ℕ → ℤ
row_change d v i = residual d (pos 1) none v i -ℤ residual d (pos 1) none none i

-- the sum over the rows of 2^-s_i (c_i(0, v) - c_i(0, 0))^2 is at most Vq(v), times 2^most
pub record AreExponents (d : Design) (s : ℕ → ℕ) (most : ℕ) : Type 0 where
  pub bounded : (i : ℕ) → i < rows d → s i ≤ most
  pub descent : (v : ℕ → ℤ) →
      (pos (cost_scale d) *ℤ total (rows d) (λ i. pos (2 ^ (most - s i)) *ℤ square (row_change d v i))) ≤ℤ
      (pos (2 ^ most * residual_scale d ^ 2) *ℤ curvature d v)

-- one exponent for all rows
abbrev pub IsExponent : Design → ℕ → Type 0
IsExponent d s = AreExponents d (λ i. s) s
