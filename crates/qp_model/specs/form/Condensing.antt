-- The condensed numbers of a design.
use Rattle.std.specs.Prelude.{ℕ, zero, suc, ◌+◌, ◌-◌, ◌*◌, ◌/◌, ◌%◌, ◌^◌, ◌≤◌, ◌<◌, ◌≡◌, ℤ, pos, ◌+ℤ◌, ◌*ℤ◌, neg_ℤ, nat_eq, nat_lt, if◌then◌else◌}
use Rattle.integer_algebra.specs.Sums.{total, image}
use Rattle.qp_model.specs.problem.Design.{Design, CostRow, LimitRow, entries}
use Rattle.qp_model.specs.form.Condensed.{Condensed, IsCondensed}
use Rattle.qp_model.specs.problem.Trajectory.{lift, trajectory}

-- the state at a stage with no input, from the unit state j, as a numerator over plant_denominator^stage
abbrev pub power : Design → ℕ → ℕ → ℕ → ℤ
power d zero i j = if nat_eq j i then pos 1 else pos 0
power d (suc k) i j = total d.states (λ h. d.plant_a i h *ℤ power d k h j)

-- what entry j of the plan adds to the state at a stage, as a numerator over plant_denominator^stage
abbrev pub response : Design → ℕ → ℕ → ℕ → ℤ
response d zero i j = pos 0
response d (suc k) i j =
    total d.states (λ h. d.plant_a i h *ℤ response d k h j) +ℤ
    (if nat_eq (j / d.inputs) k then pos (d.plant_denominator ^ k) *ℤ d.plant_b i (j % d.inputs) else pos 0)

-- ---- a cost row at a stage: what it has of the plan, of the state and of its target
abbrev pub cost_plan : Design → ℕ → CostRow → ℕ → ℤ
cost_plan d k r j = lift d k *ℤ total d.states (λ i. r.coefficient i *ℤ response d k i j)

abbrev pub cost_state : Design → ℕ → CostRow → ℕ → ℤ
cost_state d k r j = lift d k *ℤ total d.states (λ i. r.coefficient i *ℤ power d k i j)

abbrev pub cost_target : Design → ℕ → CostRow → ℤ
cost_target d k r = lift d k *ℤ (pos (d.plant_denominator ^ k) *ℤ r.target)

-- input l of stage k, as a row
abbrev pub own_input : Design → ℕ → ℕ → ℕ → ℤ
own_input d k l j = if nat_eq j (k * d.inputs + l) then pos (d.row_denominator * d.plant_denominator ^ d.stages) else pos 0

-- the sum of f over all cost rows with their stages
abbrev pub over_costs : Design → (ℕ → CostRow → ℤ) → ℤ
over_costs d f =
    total d.stages (λ k. total d.stage_costs (λ r. f (suc k) (d.stage_cost r))) +ℤ
    total d.final_costs (λ r. f d.stages (d.final_cost r))

-- ---- a limit row at a stage
abbrev pub limit_plan : Design → ℕ → LimitRow → ℕ → ℤ
limit_plan d k r j =
    lift d k *ℤ (total d.states (λ i. r.of_state i *ℤ response d k i j) +ℤ
    (if nat_eq (j / d.inputs) k then pos (d.plant_denominator ^ k) *ℤ r.of_input (j % d.inputs) else pos 0))

-- the same of a final row
abbrev pub final_plan : Design → LimitRow → ℕ → ℤ
final_plan d r j = total d.states (λ i. r.of_state i *ℤ response d d.stages i j)

abbrev pub limit_state : Design → ℕ → LimitRow → ℕ → ℤ
limit_state d k r j = lift d k *ℤ total d.states (λ i. r.of_state i *ℤ power d k i j)

-- ---- the numbers
abbrev pub condensed_of : Design → Condensed
condensed_of d = record {
  hessian = λ i j. over_costs d (λ k r. pos 2 *ℤ (r.weight *ℤ (cost_plan d k r i *ℤ cost_plan d k r j))) +ℤ
      total d.stages (λ k. total d.inputs (λ l. pos 2 *ℤ (d.input_weight l *ℤ (own_input d k l i *ℤ own_input d k l j))));
  linear = λ j i. over_costs d (λ k r. pos 2 *ℤ (r.weight *ℤ (cost_plan d k r j *ℤ cost_state d k r i)));
  constant = λ j. over_costs d (λ k r. neg_ℤ (pos 2 *ℤ (r.weight *ℤ (cost_plan d k r j *ℤ cost_target d k r))));
  by_plan = λ i j. if nat_lt i (d.stages * d.stage_limits) then limit_plan d (i / d.stage_limits) (d.stage_limit (i % d.stage_limits)) j
      else final_plan d (d.final_limit (i - d.stages * d.stage_limits)) j;
  by_state = λ i j. if nat_lt i (d.stages * d.stage_limits) then limit_state d (i / d.stage_limits) (d.stage_limit (i % d.stage_limits)) j
      else total d.states (λ h. (d.final_limit (i - d.stages * d.stage_limits)).of_state h *ℤ power d d.stages h j);
  bound = λ i. if nat_lt i (d.stages * d.stage_limits) then
      lift d (i / d.stage_limits) *ℤ (pos (d.plant_denominator ^ (i / d.stage_limits)) *ℤ (d.stage_limit (i % d.stage_limits)).bound)
      else pos (d.plant_denominator ^ d.stages) *ℤ (d.final_limit (i - d.stages * d.stage_limits)).bound;
}

-- each state of a trajectory is the free state plus the responses times the plan
abbrev pub TrajectoryLaw : Type 0
TrajectoryLaw = (d : Design) (q : ℤ) (xi u : ℕ → ℤ) (k i : ℕ) → k ≤ d.stages → i < d.states →
    trajectory d q xi u k i ≡ q *ℤ image d.states (power d k) xi i +ℤ pos (2 ^ d.grid) *ℤ image (entries d) (response d k) u i

-- the numbers of a design are its condensed form
abbrev pub CondensingLaw : Type 0
CondensingLaw = (d : Design) → 1 ≤ d.inputs → IsCondensed d (condensed_of d)
