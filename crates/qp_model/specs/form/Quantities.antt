-- The numbers of a design that must not pass 2^126, so that no number that is made of it leaves 128 bits.
use Rattle.std.specs.Prelude.{ℕ, zero, suc, ◌+◌, ◌*◌, ◌^◌, max, min, unsigned_abs}
use Rattle.integer_algebra.specs.Sizes.{size}
use Rattle.qp_model.specs.problem.Design.{Design, CostRow, LimitRow, entries, rows}

-- the greatest of f at 0, 1 .. n - 1, and 0 of none
abbrev pub greatest : ℕ → (ℕ → ℕ) → ℕ
greatest zero f = 0
greatest (suc n) f = max (greatest n f) (f n)

-- the least of f at 0, 1 .. n - 1, and 0 of none
abbrev pub least : ℕ → (ℕ → ℕ) → ℕ
least zero f = 0
least (suc zero) f = f 0
least (suc (suc n)) f = min (least (suc n) f) (f (suc n))

-- rho, the least input weight, over cost_denominator
abbrev pub input_floor : Design → ℕ
input_floor d = least d.inputs (λ l. unsigned_abs (d.input_weight l))

-- ---- absolute sums of rows
-- row i of the plant
abbrev pub plant_width : Design → ℕ → ℕ
plant_width d i = size d.states (d.plant_a i) + size d.inputs (d.plant_b i)

-- a cost row with its target
abbrev pub cost_row_width : Design → CostRow → ℕ
cost_row_width d r = size d.states r.coefficient + unsigned_abs r.target

-- a limit row with its bound
abbrev pub limit_row_width : Design → LimitRow → ℕ
limit_row_width d r = size d.states r.of_state + size d.inputs r.of_input + unsigned_abs r.bound

-- ---- what the quantities are made of
-- by how much numbers grow in a stage at most, when they are brought over the next power of the plant's denominator
abbrev pub growth : Design → ℕ
growth d = max d.plant_denominator (greatest d.states (plant_width d))

-- the widest cost row, or what the cost rows are over
abbrev pub cost_width : Design → ℕ
cost_width d = max d.row_denominator (max (greatest d.stage_costs (λ r. cost_row_width d (d.stage_cost r)))
    (greatest d.final_costs (λ r. cost_row_width d (d.final_cost r))))

-- the widest limit row, or what the limit rows are over
abbrev pub limit_width : Design → ℕ
limit_width d = max d.limit_denominator (max (greatest d.stage_limits (λ r. limit_row_width d (d.stage_limit r)))
    (greatest d.final_limits (λ r. limit_row_width d (d.final_limit r))))

-- all weights, each as often as it counts, and what they are over
abbrev pub weight_sum : Design → ℕ
weight_sum d = d.cost_denominator +
    d.stages * (size d.stage_costs (λ r. (d.stage_cost r).weight) + size d.inputs d.input_weight) +
    size d.final_costs (λ r. (d.final_cost r).weight)

-- ---- the quantities
-- by how much numbers grow over all stages: `prediction`
abbrev pub prediction_size : Design → ℕ
prediction_size d = growth d ^ d.stages

-- what a cost row has of an entry of the plan, of a state or of its target at most
abbrev pub response_size : Design → ℕ
response_size d = cost_width d * prediction_size d

-- a number of the condensed cost at most
abbrev pub cost_entry_size : Design → ℕ
cost_entry_size d = 2 * weight_sum d * response_size d ^ 2

-- a number of the condensed limits at most
abbrev pub limit_entry_size : Design → ℕ
limit_entry_size d = limit_width d * prediction_size d

-- the absolute values of all numbers of the condensed cost: `hessian`
abbrev pub hessian_size : Design → ℕ
hessian_size d = entries d * (entries d + d.states + 1) * cost_entry_size d

-- the squares of all numbers of the condensed limits: `rows`
abbrev pub rows_size : Design → ℕ
rows_size d = (entries d + d.states + 1) * rows d * limit_entry_size d ^ 2
