-- Which designs are condensed in enclosures, and the numbers of such a design that must not pass 2^126, so that none that is made of it leaves 128 bits.
use Rattle.std.specs.Prelude.{ℕ, zero, suc, ◌+◌, ◌*◌, ◌^◌, ◌≤◌, max, Bool, nat_lt}
use Rattle.integer_algebra.specs.Division.{ceil_div}
use Rattle.qp_model.specs.problem.Design.{Design, entries, rows}
use Rattle.qp_model.specs.form.Quantities.{growth, cost_width, limit_width, weight_sum, prediction_size, hessian_size, rows_size, input_floor}
use Rattle.qp_model.specs.problem.Sound.{IsSound}
use Rattle.qp_model.specs.form.Form.{exact_form, IsFormFor}
use Rattle.qp_model.specs.form.CurvatureSize.{covering_exponent, curvature_of}
use Rattle.qp_model.specs.form.FineForm.{fine_form, hessian_radius}

-- ---- which designs
-- `curvature` of the exact numbers
abbrev pub exact_curvature_size : Design → ℕ
exact_curvature_size d =
    curvature_of (covering_exponent d (exact_form d)) d.limit_denominator (hessian_size d) d.cost_denominator d.row_denominator (rows_size d)

-- those of which `prediction`, `hessian`, `rows` or `curvature` of the exact numbers is above 2^126
abbrev pub is_fine : Design → Bool
is_fine d = nat_lt (2 ^ 126) (max (max (prediction_size d) (hessian_size d)) (max (rows_size d) (exact_curvature_size d)))

-- ---- the quantities
-- what a run whose first state and plan reach `first` reaches at a stage at most, over 2^40
abbrev pub reach_from : Design → (first : ℕ) → ℕ → ℕ
reach_from d first zero = first
reach_from d first (suc k) = ceil_div (growth d * reach_from d first k) d.plant_denominator + 3

-- a response
abbrev pub fine_reach : Design → ℕ → ℕ
fine_reach d k = reach_from d (2 ^ 40) k

-- before it is divided by the plant's denominator: `prediction`
abbrev pub fine_prediction_size : Design → ℕ
fine_prediction_size d = growth d * fine_reach d d.stages

-- what a cost row has of an entry of the plan, of a state or of its target at most
abbrev pub fine_response_size : Design → ℕ
fine_response_size d = cost_width d * fine_reach d d.stages

-- a number of the condensed cost at most, over 2^80
abbrev pub fine_cost_entry_size : Design → ℕ
fine_cost_entry_size d = 2 * weight_sum d * fine_response_size d ^ 2

-- a number of the condensed limits at most
abbrev pub fine_limit_entry_size : Design → ℕ
fine_limit_entry_size d = limit_width d * fine_reach d d.stages

-- the absolute values of all numbers of the condensed cost, or what keeps the hessian's radii narrow: `hessian`
abbrev pub fine_hessian_size : Design → ℕ
fine_hessian_size d = max (entries d * (entries d + d.states + 1) * fine_cost_entry_size d) (2 ^ 86 * hessian_radius d)

-- the squares of all numbers of the condensed limits: `rows`
abbrev pub fine_rows_size : Design → ℕ
fine_rows_size d = (entries d + d.states + 1) * rows d * fine_limit_entry_size d ^ 2

-- what a row of half the hessian comes to at most, and a row of the products of the limits' columns, with what rounding adds
abbrev pub fine_cost_row_size : Design → ℕ
fine_cost_row_size d = ceil_div (fine_hessian_size d) (2 ^ 40) + 4 * entries d

abbrev pub fine_product_row_size : Design → ℕ
fine_product_row_size d = ceil_div (fine_rows_size d) (2 ^ 40) + 4 * entries d

-- the numbers of the matrices that the step's exponent is chosen by: `curvature`
abbrev pub fine_curvature_size : Design → ℕ
fine_curvature_size d =
    curvature_of (covering_exponent d (fine_form d)) d.limit_denominator (fine_cost_row_size d) d.cost_denominator d.row_denominator (fine_product_row_size d)

-- where `hessian` is within its limit, the enclosures are a form that a controller may be made of
abbrev pub FineFormLaw : Type 0
FineFormLaw = (d : Design) → IsSound d (input_floor d) → fine_hessian_size d ≤ 2 ^ 126 → IsFormFor d (fine_form d)
