-- What the errors of the steps of the accelerated machine cost a run: those of the residuals count once, those of the gradient accumulate.
use Rattle.std.specs.Prelude.{ℕ, ◌+◌, ◌-◌, ◌*◌, ◌^◌, List, slice_index_or}
use Rattle.integer_algebra.specs.Division.{ceil_div}
use Rattle.integer_algebra.specs.Sizes.{amount}
use Rattle.qp_model.specs.problem.Design.{Design}
use Rattle.qp_model.specs.form.Form.{Form, farthest}
use Rattle.qp_model.specs.bounds.Errors.{ErrorSums, StepErrors, gradient_error, first_cost, error_sums_of, errors_cost}

-- J: an error of the gradient counts at most so often in a run of n steps
abbrev pub carry_of : ℕ → ℕ
carry_of n = ceil_div ((n + 1) * (n + 5)) (3 * (n + 3))

-- rounding the means moves entry j of the gradient by at most 2^-fraction_bits times this, where the rows have these step exponents, up to s
abbrev pub mean_error : Form → (s : ℕ) → (exponents : List ℕ) → ℕ → ℕ
mean_error h s exponents j =
    ceil_div (amount h.rows (λ i. 2 ^ (s - slice_index_or exponents i 0) * farthest (h.numbers.by_plan i j) (h.plan_radius i j))) (2 ^ s * h.rows_scale)

-- the errors of a step with that
abbrev pub with_means : Form → (s : ℕ) → (exponents : List ℕ) → StepErrors → StepErrors
with_means h s exponents e = record { plan = e.plan; gradient = λ j. e.gradient j + mean_error h s exponents j }

-- the sums of a step's errors, those of the gradient n times
abbrev pub carried_times : ℕ → (first : ℕ) → ErrorSums → ErrorSums
carried_times n first s = record s { first = n * first; weight_scale = s.weight_scale * n }

-- what the errors e of each step cost a run of k steps, over 2^40
abbrev pub cost_of_run : Design → Form → (r f k : ℕ) → StepErrors → ℕ
cost_of_run d h r f k e =
    errors_cost (carried_times (carry_of k) (first_cost d e.gradient) (error_sums_of d h r)) (carry_of k * first_cost d e.gradient) e.plan f

-- the stated ones as the sums of those of a step, for the choice of the fraction bits: E(f) is their epsilon
abbrev pub run_sums_of : Design → Form → (r k s : ℕ) → (exponents : List ℕ) → ErrorSums
run_sums_of d h r k s exponents =
    carried_times (carry_of k) (first_cost d (λ j. gradient_error d h r j + mean_error h s exponents j)) (error_sums_of d h r)

-- ---- as the code adds them up
-- the numbers of n rows, each over 2 to the power of its row's exponent, times 2^s
abbrev pub lowered_sum : (n : ℕ) → (size : ℕ → ℕ) → (s : ℕ) → (exponents : List ℕ) → ℕ
lowered_sum n size s exponents = amount n (λ i. 2 ^ (s - slice_index_or exponents i 0) * size i)
