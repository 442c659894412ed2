-- The errors of a step by the residuals that a controller's gains really leave, which are often far below those that a good solution may leave.
use Rattle.std.specs.Prelude.{ℕ, ◌+◌, ◌*◌, ◌^◌, min, Bool, pos, ◌-ℤ◌, ◌*ℤ◌, unsigned_abs, nat_lt, if◌then◌else◌}
use Rattle.integer_algebra.specs.Division.{ceil_div}
use Rattle.integer_algebra.specs.Sums.{image}
use Rattle.integer_algebra.specs.Sizes.{amount}
use Rattle.qp_model.specs.problem.Design.{Design}
use Rattle.qp_model.specs.form.Form.{Form, farthest}
use Rattle.qp_model.specs.form.Columns.{solve_matrix, solve_column}
use Rattle.qp_model.specs.form.Quantities.{greatest}
use Rattle.qp_model.specs.machine.Controller.{Numbers}
use Rattle.qp_model.specs.machine.AbsoluteSums.{plan_magnitudes, greatest_of}
use Rattle.qp_model.specs.bounds.Built.{gain_column}
use Rattle.qp_model.specs.bounds.Errors.{StepErrors, state_bound, combined_bound, error_sums_of, plan_bound, gradient_error, cost_of_errors}

-- by how much the gains of column i miss entry j of their system
abbrev pub gain_residual : Form → Numbers → ℕ → ℕ → ℕ
gain_residual h c i j = unsigned_abs (image h.entries (solve_matrix h) (gain_column c i) j -ℤ pos (2 ^ c.fraction_bits) *ℤ solve_column h i j)

-- D_j: what that comes to in entry j of the gradient, where states go up to the box and multipliers to 2 r; times matrix_factor * hessian_scale
abbrev pub gain_error : Design → Form → ℕ → Numbers → ℕ → ℕ
gain_error d h r c j =
    state_bound d * amount h.states (λ i. gain_residual h c i j) + gain_residual h c h.states j
    + 2 * r * amount h.rows (λ i. gain_residual h c (h.states + 1 + i) j)

-- whether these stay within 2^126, whichever good solutions the gains are
abbrev pub has_residual_room : Design → Form → ℕ → Bool
has_residual_room d h r = nat_lt (greatest h.entries (λ j. unsigned_abs (solve_matrix h j j) * combined_bound d r)) (2 ^ 126 + 1)

-- each entry j of the midpoints' gradient at a plan of the machine is at most 2^-f times this
abbrev pub residual_gradient : Design → Form → ℕ → Numbers → ℕ → ℕ
residual_gradient d h r c j =
    ceil_div (gain_error d h r c j) (unsigned_abs h.matrix_factor * h.hessian_scale)
    + ceil_div (amount h.entries (λ l. farthest (h.numbers.hessian j l) (h.hessian_radius j l))) h.hessian_scale

-- r'_j: that, or the stated bound where there is no room
abbrev pub real_gradient : Design → Form → ℕ → Numbers → ℕ → ℕ
real_gradient d h r c j = if has_residual_room d h r then residual_gradient d h r c j else gradient_error d h r j

-- U': each plan entry of the machine is at most this in absolute value, by the stated bound or by the greatest of its absolute sums
abbrev pub real_plan : Design → Form → ℕ → Numbers → ℕ
real_plan d h r c = min (plan_bound (error_sums_of d h r) c.fraction_bits) (ceil_div (greatest_of (plan_magnitudes c)) (2 ^ c.fraction_bits))

abbrev pub real_errors : Design → Form → ℕ → Numbers → StepErrors
real_errors d h r c = record { plan = real_plan d h r c; gradient = real_gradient d h r c }

-- E', over 2^40: what they cost
abbrev pub real_cost : Design → Form → ℕ → Numbers → ℕ
real_cost d h r c = cost_of_errors d h r c.fraction_bits (real_errors d h r c)
