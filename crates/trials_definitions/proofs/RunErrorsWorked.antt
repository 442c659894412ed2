-- The errors of runs of the accelerated machine on the first design, whose rows then have the step exponents 0, 1 and 1, by another program in whole numbers.
use Rattle.std.proofs.Common.{◌≡◌, ℕ, List, [], ◌∷◌, refl}
use Rattle.qp_model.specs.form.Class.{form_of}
use Rattle.qp_model.specs.bounds.Errors.{ErrorSums, gradient_error, epsilon}
use Rattle.step_error.specs.CarriedErrors.{mean_error, run_sums_of}
use Rattle.trials_definitions.proofs.WorkedDesigns.{base}

abbrev exponents : List ℕ
exponents = 0 ∷ 1 ∷ 1 ∷ []

-- what rounding the means adds
means : mean_error (form_of base) 1 exponents 0 ≡ 2
means = refl

-- ---- by one step and multipliers up to 2
abbrev one_step : ErrorSums
one_step = run_sums_of base (form_of base) 1 1 1 exponents

own : gradient_error base (form_of base) 1 0 ≡ 20
own = refl

one_first : one_step.first ≡ 242
one_first = refl

one_error : epsilon one_step 6 ≡ 580357455872
one_error = refl

-- ---- by three steps, where an error of the gradient counts twice
three_errors : epsilon (run_sums_of base (form_of base) 1 3 1 exponents) 9 ≡ 66454552576
three_errors = refl

-- and with multipliers up to 16
abbrev three_steps : ErrorSums
three_steps = run_sums_of base (form_of base) 8 3 1 exponents

three_first : three_steps.first ≡ 11236
three_first = refl

three_error : epsilon three_steps 10 ≡ 810645716992
three_error = refl
