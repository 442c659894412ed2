-- The sums of a run of the accelerated machine, as the code makes them of a step's.
use Rattle.std.specs.Prelude.{ℕ, ◌+◌, ◌*◌, List, length, unsigned_abs}
use Rattle.integer_algebra.specs.Division.{ceil_div}
use Rattle.qp_model.specs.problem.Design.{Design}
use Rattle.qp_model.specs.form.Form.{Form}
use Rattle.qp_model.specs.form.Quantities.{input_floor}
use Rattle.qp_model.specs.bounds.Errors.{ErrorSums, gradient_error, gradient_squares, plan_pull, error_sums_of}
use Rattle.condensed_form.specs.Form.{held}
use Rattle.condensed_form.specs.declared.condensed.Condensed.{Condensed}
use Rattle.step_error.specs.ErrorSums.{size_by, farthest_entry, entry_error}
use Rattle.step_error.specs.CarriedErrors.{mean_error, carried_times, run_sums_of}

-- what the squares of the gradient's errors come to with the means
abbrev pub mean_squares : Design → Form → (r s : ℕ) → (exponents : List ℕ) → ℕ
mean_squares d h r s exponents = gradient_squares d (λ j. gradient_error d h r j + mean_error h s exponents j)

-- `error` of a run: that of a step, where what the squares cost, and the weights, count as often as an error of the gradient does
abbrev pub run_error_size : Design → Form → (r k s : ℕ) → (exponents : List ℕ) → ℕ
run_error_size d h r k s exponents =
    size_by (d.cost_denominator * mean_squares d h r s exponents) (plan_pull d h r) (run_sums_of d h r k s exponents)

-- entry j of those errors, of numbers of a condensed form, where all states and multipliers come to `reach`
abbrev pub error_with_mean : Condensed → (reach s : ℕ) → (exponents : List ℕ) → ℕ → ℕ
error_with_mean c reach s exponents j =
    entry_error (length c.hess.rows) (farthest_entry c.hess c.hess_rad) (unsigned_abs c.hess_den) reach j + mean_error (held c) s exponents j

-- the sums and the quantity, by how often these errors count and by the squares
abbrev pub sums_by : Design → Form → (r times squares : ℕ) → ErrorSums
sums_by d h r times squares = carried_times times (ceil_div (d.cost_denominator * squares) (2 * input_floor d)) (error_sums_of d h r)

abbrev pub run_size_by : Design → Form → (r times squares : ℕ) → ℕ
run_size_by d h r times squares = size_by (d.cost_denominator * squares) (plan_pull d h r) (sums_by d h r times squares)
