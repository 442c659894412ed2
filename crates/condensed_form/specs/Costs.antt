-- What the counted cost rows have of a plan's entries and of states, and the condensed cost as sums over them.
use Rattle.std.specs.Prelude.{ℕ, ◌*◌, ◌%◌, ◌^◌, ℤ, pos, ◌*ℤ◌, nat_eq, if◌then◌else◌}
use Rattle.integer_algebra.specs.Sums.{dot, none, square}
use Rattle.qp_model.specs.problem.Design.{Design}
use Rattle.qp_model.specs.problem.Runs.{unit, cost_run, counted, counts}

-- of entry j of the plan
abbrev pub plan_cost : Design → ℕ → ℕ → ℤ
plan_cost d j = counted d (cost_run d none (unit j))

-- of state i
abbrev pub state_cost : Design → ℕ → ℕ → ℤ
state_cost d i = counted d (cost_run d (unit i) none)

abbrev pub weight_of : Design → ℕ → ℤ
weight_of d = counted d (λ k r. r.weight)

abbrev pub target_of : Design → ℕ → ℤ
target_of d = counted d (λ k r. r.target)

-- twice the weighted sum of what the rows have of entry j of the plan, each times f
abbrev pub weighed : Design → ℕ → (ℕ → ℤ) → ℤ
weighed d j f = pos 2 *ℤ dot (counts d) (plan_cost d j) (λ c. weight_of d c *ℤ f c)

-- what the inputs' own costs add to the hessian
abbrev pub own_cost : Design → ℕ → ℕ → ℤ
own_cost d i j = if nat_eq i j then pos 2 *ℤ (d.input_weight (i % d.inputs) *ℤ square (pos (d.row_denominator * d.plant_denominator ^ d.stages))) else pos 0
