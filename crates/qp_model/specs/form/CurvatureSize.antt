-- What the quantity `curvature` is made of, which bounds the numbers of the matrices that the step's exponent is chosen by.
use Rattle.std.specs.Prelude.{ℕ, ◌+◌, ◌*◌, ◌^◌, ◌≤◌, nat_le}
use Rattle.integer_algebra.specs.Sizes.{amount}
use Rattle.qp_model.specs.problem.Design.{Design}
use Rattle.qp_model.specs.form.Form.{Form, farthest}
use Rattle.qp_model.specs.bounds.Least.{least_up_to}
use Rattle.qp_model.specs.form.Quantities.{input_floor}

-- the squares of all numbers that the condensed limits have of the plan, each at its farthest, over rows_scale^2
abbrev pub limit_squares : Form → ℕ
limit_squares h = amount h.rows (λ i. amount h.entries (λ j. farthest (h.numbers.by_plan i j) (h.plan_radius i j) ^ 2))

-- 2^s times the least input weight, brought over what these squares are over
abbrev pub floor_times : Design → Form → ℕ → ℕ
floor_times d h s = 2 ^ s * input_floor d * h.rows_scale ^ 2

-- it is at least these squares: then 2^s times the curvature is at least the squares of the rows' changes
abbrev pub CoversSquaresOf : Design → Form → ℕ → Type 0
CoversSquaresOf d h s = d.cost_denominator * limit_squares h ≤ floor_times d h s

-- the least number up to 40 that covers the squares of a form's rows, or 40
abbrev pub covering_exponent : Design → Form → ℕ
covering_exponent d h = least_up_to 40 (λ s. nat_le (d.cost_denominator * limit_squares h) (floor_times d h s))

-- 2^s limit_den^2 cost + weight_den cost_row_den^2 rows, of what the numbers of half the hessian and of the rows' products come to
abbrev pub curvature_of : (s limit_den cost weight_den cost_row_den rows : ℕ) → ℕ
curvature_of s limit_den cost weight_den cost_row_den rows = 2 ^ s * limit_den ^ 2 * cost + weight_den * cost_row_den ^ 2 * rows
