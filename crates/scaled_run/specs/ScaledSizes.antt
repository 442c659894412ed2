-- The quantities of the one recipe. `slack` is what the rounding of a state adds to it at most: 3, or 0 where every division comes out even; `more` is
-- what the rounding of the sums adds to a row of a matrix.
use Rattle.std.specs.Prelude.{ℕ, zero, suc, ◌+◌, ◌*◌, ◌^◌, max}
use Rattle.integer_algebra.specs.Division.{ceil_div}
use Rattle.qp_model.specs.problem.Design.{Design, entries, rows}
use Rattle.qp_model.specs.form.Quantities.{growth, cost_width, limit_width, weight_sum}
use Rattle.qp_model.specs.form.CurvatureSize.{covering_exponent, curvature_of}
use Rattle.scaled_run.specs.ScaledForm.{scaled_form, scaled_radius}

-- what a run whose first state and plan reach `first` reaches at a stage at most
abbrev pub scaled_reach_from : (slack : ℕ) → Design → (first : ℕ) → ℕ → ℕ
scaled_reach_from slack d first zero = first
scaled_reach_from slack d first (suc k) = ceil_div (growth d * scaled_reach_from slack d first k) d.plant_denominator + slack

-- a response at the last stage
abbrev pub scaled_reach : (unit slack : ℕ) → Design → ℕ
scaled_reach unit slack d = scaled_reach_from slack d unit d.stages

-- what a cost row has of an entry of the plan, of a state or of its target at most
abbrev pub scaled_response_size : (unit slack : ℕ) → Design → ℕ
scaled_response_size unit slack d = cost_width d * scaled_reach unit slack d

-- a number of the condensed cost at most, before it is divided by den
abbrev pub scaled_cost_entry_size : (unit slack : ℕ) → Design → ℕ
scaled_cost_entry_size unit slack d = 2 * weight_sum d * scaled_response_size unit slack d ^ 2

-- a number of the condensed limits at most
abbrev pub scaled_limit_entry_size : (unit slack : ℕ) → Design → ℕ
scaled_limit_entry_size unit slack d = limit_width d * scaled_reach unit slack d

-- `hessian`
abbrev pub scaled_hessian_size : (unit den slack : ℕ) → Design → ℕ
scaled_hessian_size unit den slack d = max (entries d * (entries d + d.states + 1) * scaled_cost_entry_size unit slack d) (2 ^ 86 * scaled_radius unit den d)

-- `rows`
abbrev pub scaled_rows_size : (unit slack : ℕ) → Design → ℕ
scaled_rows_size unit slack d = (entries d + d.states + 1) * rows d * scaled_limit_entry_size unit slack d ^ 2

-- what a row of half the hessian comes to at most, and a row of the products of the limits' columns
abbrev pub scaled_cost_row_size : (unit den slack more : ℕ) → Design → ℕ
scaled_cost_row_size unit den slack more d = ceil_div (scaled_hessian_size unit den slack d) den + more * entries d

abbrev pub scaled_product_row_size : (unit den slack more : ℕ) → Design → ℕ
scaled_product_row_size unit den slack more d = ceil_div (scaled_rows_size unit slack d) den + more * entries d

-- `curvature`
abbrev pub scaled_curvature_size : (unit den slack more : ℕ) → Design → ℕ
scaled_curvature_size unit den slack more d =
    curvature_of (covering_exponent d (scaled_form unit den d)) d.limit_denominator (scaled_cost_row_size unit den slack more d) d.cost_denominator d.row_denominator
    (scaled_product_row_size unit den slack more d)
