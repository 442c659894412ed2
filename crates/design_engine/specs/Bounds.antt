-- The bounds that are printed of a controller.
use Rattle.std.specs.Prelude.{◌≡◌, ℕ, ◌<◌, pos, length, unsigned_abs}
use Rattle.integer_algebra.specs.Sums.{at}
use Rattle.qp_model.specs.form.Class.{form_of}
use Rattle.qp_model.specs.problem.Design.{Design}
use Rattle.qp_model.specs.bounds.Choices.{multiplier_of, violation_bound, row_violation_bound, lean_row_violation, undercut_bound}
use Rattle.qp_model.specs.bounds.Errors.{error_sums_of, epsilon}
use Rattle.qp_model.specs.machine.Controller.{Numbers}
use Rattle.qp_model.specs.machine.Machine.{exponent_of}
use Rattle.qp_model.specs.bounds.Printed.{Printed}
use Rattle.qp_model.specs.declared.bounds.Margin.{Margin}

-- the margin that the bounds print
abbrev pub margin_of : Printed → Margin
margin_of b = record { units = b.margin; cost = b.cost }

-- R, of what is printed
abbrev pub printed_multiplier : Printed → ℕ
printed_multiplier b = multiplier_of (margin_of b)

-- what the stated errors of a step cost, over 2^40, which bounds what those of any good gains cost
abbrev pub stated_cost : Design → ℕ → ℕ → ℕ
stated_cost d r f = epsilon (error_sums_of d (form_of d) r) f

-- the bounds print the controller's numbers and R, and over 2^40 the violation of all rows and that of each by its step exponent, what the errors of a step cost
-- at most, and the undercut, which is R times the violation that a repair is known for
pub record AreBoundsWith (c : Numbers) (b : Printed) (r cost most : ℕ) (row : ℕ → ℕ) (repaired : ℕ) : Type 0 where
  pub version : b.version ≡ c.version
  pub multiplier : b.multiplier ≡ pos r
  pub step : b.step ≡ c.step_exponent
  pub steps : b.steps ≡ c.steps
  pub bits : b.bits ≡ c.fraction_bits
  pub width : b.width ≡ c.width
  pub words : b.words ≡ c.words
  pub violation : b.violation ≡ pos most
  pub row_count : length b.row_violations ≡ c.rows
  pub row_violations : (i : ℕ) → i < c.rows → at b.row_violations i ≡ pos (row (exponent_of c i))
  pub gap : b.gap ≡ pos cost
  pub undercut : b.undercut ≡ pos (undercut_bound r repaired)

-- by the margin that they print, where a repair is known for the violation of all rows
abbrev pub AreBoundsOf : (c : Numbers) (b : Printed) (cost : ℕ) → Type 0
AreBoundsOf c b cost = AreBoundsWith c b (printed_multiplier b) cost (violation_bound c.step_exponent (printed_multiplier b) c.steps cost)
    (λ e. row_violation_bound e c.step_exponent (printed_multiplier b) c.steps cost) (unsigned_abs b.violation)

-- by R, where it is known for the threshold
abbrev pub AreThresholdBoundsOf : (c : Numbers) (b : Printed) (r threshold cost : ℕ) → Type 0
AreThresholdBoundsOf c b r threshold cost = AreBoundsWith c b r cost (lean_row_violation c.step_exponent r c.steps cost threshold)
    (λ e. lean_row_violation e r c.steps cost threshold) threshold
