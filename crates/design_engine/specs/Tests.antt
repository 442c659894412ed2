-- The tests that any controller passes whatever its policy is: those of a design's form, and then those of an aim; and why the first that fails refuses it.
use Rattle.std.specs.Prelude.{◌≡◌, ◌⊎◌, ℕ, ◌^◌, ◌<◌, ◌≤◌, pos, unsigned_abs}
use Rattle.qp_model.specs.form.Class.{form_of, prediction_quantity, hessian_quantity, rows_quantity, curvature_quantity}
use Rattle.qp_model.specs.form.Columns.{descent_size}
use Rattle.qp_model.specs.problem.Design.{Design}
use Rattle.qp_model.specs.bounds.Errors.{error_size}
use Rattle.qp_model.specs.declared.quantity.Quantity.TheVariants.{Error, Descent, Width}
use Rattle.controller_maker.specs.Widest.{width_size}
use Rattle.design_engine.specs.Aims.{steps_of, AreBitsOf}
use Rattle.design_engine.specs.Bounds.{stated_cost}
use Rattle.design_engine.specs.Stages.{Nothing, Next, Sized, Finds, OfForm}
use Rattle.design_engine.specs.declared.aimed.Aim.{Aim}
use Rattle.qp_model.specs.declared.refusal.Refusal.{Refusal}
use Rattle.qp_model.specs.declared.refusal.Refusal.TheVariants.{Memory, TooManySteps, TooFine}

-- out of memory, or with a cause
abbrev pub IsRefusedFor : (Refusal → Type 0) → Refusal → Type 0
IsRefusedFor cause e = (e ≡ Memory) ⊎ cause e

-- ---- the form
-- its quantities are within their limits
pub record PassesForm (d : Design) : Type 0 where
  pub prediction : prediction_quantity d ≤ 2 ^ 126
  pub hessian : hessian_quantity d ≤ 2 ^ 126
  pub rows : rows_quantity d ≤ 2 ^ 126
  pub curvature : curvature_quantity d ≤ 2 ^ 126

-- why there is no form, or no step exponent
abbrev pub HasFormCause : Design → Refusal → Type 0
HasFormCause d = OfForm d (λ s. Nothing)

-- ---- an aim, with the step exponent s
-- the quantity `width`, at f bits
abbrev pub width_of : Design → Aim → (s f : ℕ) → ℕ
width_of d a s f = width_size d (unsigned_abs a.r) s (steps_of a s) f

-- the steps are few enough, and f bits are enough for the errors
pub record PassesBits (d : Design) (a : Aim) (s f : ℕ) : Type 0 where
  pub steps : steps_of a s ≤ 2 ^ 22
  pub error : error_size d (form_of d) (unsigned_abs a.r) ≤ 2 ^ 126
  pub choice : AreBitsOf d a f

-- the systems and the controller's sums are within their limits
pub record PassesAim (d : Design) (a : Aim) (s f : ℕ) : Type 0 where
  pub before : PassesBits d a s f
  pub descent : descent_size (form_of d) f ≤ 2 ^ 126
  pub width : width_of d a s f ≤ 2 ^ 126

-- the steps are more than 2^22: their number is told
abbrev pub IsLong : Aim → ℕ → Refusal → Type 0
IsLong a s e = (e ≡ TooManySteps (pos (steps_of a s))) × (2 ^ 22 < steps_of a s)

-- even at 48 bits the errors of a step are above the limit: what they are there is told
abbrev pub IsFine : Design → Aim → Refusal → Type 0
IsFine d a e = (e ≡ TooFine (pos (stated_cost d (unsigned_abs a.r) 48))) × (unsigned_abs a.error_target < stated_cost d (unsigned_abs a.r) 48)

-- the tests of the systems and the sums, at f bits
abbrev pub AfterBits : Design → Aim → (s f : ℕ) → Refusal → Type 0
AfterBits d a s f = Sized Descent (descent_size (form_of d) f) (Sized Width (width_of d a s f) Nothing)

-- those of the errors and the bits
abbrev pub AfterSteps : Design → Aim → ℕ → Refusal → Type 0
AfterSteps d a s = Sized Error (error_size d (form_of d) (unsigned_abs a.r)) (Finds ℕ (IsFine d a) (AreBitsOf d a) (AfterBits d a s))

-- why the aim is missed
abbrev pub HasAimCause : Design → Aim → ℕ → Refusal → Type 0
HasAimCause d a s = Next (IsLong a s) (steps_of a s ≤ 2 ^ 22) (AfterSteps d a s)
