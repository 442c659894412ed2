-- A design whose cost bends up along each input.
use Rattle.std.specs.Prelude.{ℕ, ◌≤◌, ◌<◌, pos, ◌≤ℤ◌}
use Rattle.qp_model.specs.problem.Design.{Design}

-- the denominators and weights of a design are as they should be, and rho is at most each input's weight
pub record IsSound (d : Design) (rho : ℕ) : Type 0 where
  pub plant_denominator : 1 ≤ d.plant_denominator
  pub cost_denominator : 1 ≤ d.cost_denominator
  pub row_denominator : 1 ≤ d.row_denominator
  pub limit_denominator : 1 ≤ d.limit_denominator
  pub rho_positive : 1 ≤ rho
  pub inputs : 1 ≤ d.inputs
  pub input_weight : (l : ℕ) → l < d.inputs → pos rho ≤ℤ d.input_weight l
  pub stage_weight : (r : ℕ) → r < d.stage_costs → pos 0 ≤ℤ (d.stage_cost r).weight
  pub final_weight : (r : ℕ) → r < d.final_costs → pos 0 ≤ℤ (d.final_cost r).weight
