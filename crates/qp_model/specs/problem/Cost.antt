-- What a plan costs.
use Rattle.std.specs.Prelude.{ℕ, suc, ◌+◌, ◌*◌, ◌^◌, ℤ, pos, ◌+ℤ◌, ◌-ℤ◌, ◌*ℤ◌}
use Rattle.integer_algebra.specs.Sums.{total, dot, square}
use Rattle.qp_model.specs.problem.Design.{Design, CostRow}
use Rattle.qp_model.specs.problem.Trajectory.{trajectory, lift}

-- the costs of a plan over q are over this, times q^2
abbrev pub cost_scale : Design → ℕ
cost_scale d = d.cost_denominator * (d.row_denominator * 2 ^ d.grid * d.plant_denominator ^ d.stages) ^ 2

-- what a cost row adds at a stage
abbrev pub cost_term : Design → ℤ → (xi u : ℕ → ℤ) → ℕ → CostRow → ℤ
cost_term d q xi u k r =
    r.weight *ℤ square (lift d k *ℤ (dot d.states r.coefficient (trajectory d q xi u k) -ℤ pos (2 ^ d.grid) *ℤ q *ℤ pos (d.plant_denominator ^ k) *ℤ r.target))

-- the cost with these stage and final rows
abbrev pub cost_by : Design → (stage final : ℕ → CostRow) → ℤ → (xi u : ℕ → ℤ) → ℤ
cost_by d stage final q xi u =
    total d.stages (λ k. total d.stage_costs (λ r. cost_term d q xi u (suc k) (stage r))) +ℤ
    total d.final_costs (λ r. cost_term d q xi u d.stages (final r)) +ℤ
    total d.stages (λ k. total d.inputs (λ l. d.input_weight l *ℤ
    square (pos (d.row_denominator * 2 ^ d.grid * d.plant_denominator ^ d.stages) *ℤ u (k * d.inputs + l))))

-- the cost V(xi, u), as a numerator over `cost_scale d` * q^2
abbrev pub cost : Design → ℤ → (xi u : ℕ → ℤ) → ℤ
cost d q xi u = cost_by d d.stage_cost d.final_cost q xi u
