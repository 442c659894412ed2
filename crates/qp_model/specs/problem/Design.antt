-- A linear plant with quadratic costs and linear limits, over whole numbers.
use Rattle.std.specs.Prelude.{ℕ, ◌+◌, ◌*◌, ℤ}

-- costs (weight / cost_denominator) * ((coefficient'x - target) / row_denominator)^2
pub record CostRow : Type 0 where
  pub coefficient : ℕ → ℤ
  pub target : ℤ
  pub weight : ℤ

-- asks that (of_state'x + of_input'u) / limit_denominator is at most bound / limit_denominator
pub record LimitRow : Type 0 where
  pub of_state : ℕ → ℤ
  pub of_input : ℕ → ℤ
  pub bound : ℤ

-- the version of its text, the plant (plant_a x + plant_b u) / plant_denominator, the costs, the limits, and the box low .. high of states over 2^grid
pub record Design : Type 0 where
  pub version : ℕ
  pub states : ℕ
  pub inputs : ℕ
  pub stages : ℕ
  pub plant_denominator : ℕ
  pub plant_a : ℕ → ℕ → ℤ
  pub plant_b : ℕ → ℕ → ℤ
  pub cost_denominator : ℕ
  pub row_denominator : ℕ
  pub input_weight : ℕ → ℤ
  pub stage_costs : ℕ
  pub stage_cost : ℕ → CostRow
  pub final_costs : ℕ
  pub final_cost : ℕ → CostRow
  pub limit_denominator : ℕ
  pub stage_limits : ℕ
  pub stage_limit : ℕ → LimitRow
  pub final_limits : ℕ
  pub final_limit : ℕ → LimitRow
  pub grid : ℕ
  pub low : ℕ → ℤ
  pub high : ℕ → ℤ

-- how many numbers a plan has, and how many rows there are
abbrev pub entries : Design → ℕ
entries d = d.stages * d.inputs

-- how many limits: those of each stage, and the final ones
abbrev pub rows : Design → ℕ
rows d = d.stages * d.stage_limits + d.final_limits
