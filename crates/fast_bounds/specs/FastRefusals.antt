-- Why a design with a policy and reference plans has no controller of the accelerated machine: the first of these tests, in their order, that it fails. They
-- are those of a lean controller, with the numbers of this machine; the exponents of the rows, which the errors of a run are made of, refuse nothing.
use Rattle.std.specs.Prelude.{◌≡◌, ℕ, ◌^◌, ◌<◌, ◌≤◌, pos, List, unsigned_abs}
use Rattle.qp_model.specs.form.Class.{form_of}
use Rattle.qp_model.specs.form.Columns.{descent_size}
use Rattle.qp_model.specs.problem.Design.{Design}
use Rattle.qp_model.specs.problem.Policy.{Plans, IsPolicyFor}
use Rattle.qp_model.specs.problem.Parts.{IsDesign, design_of}
use Rattle.qp_model.specs.declared.design_parts.DesignParts.{DesignParts}
use Rattle.qp_model.specs.bounds.Errors.{epsilon}
use Rattle.qp_model.specs.declared.bounds.Margin.{Margin}
use Rattle.qp_model.specs.declared.quantity.Quantity.TheVariants.{Error, Descent, Width}
use Rattle.controller_maker.specs.Widest.{fast_width_size}
use Rattle.lean_engine.specs.Steps.{IsExponentOf}
use Rattle.lean_engine.specs.Engine.RowExponents.{AreExponentsOf}
use Rattle.dual_bounds.specs.FastSteps.{IsFastStepCount, fast_multiplier_size}
use Rattle.step_error.specs.Choice.{IsChoice}
use Rattle.step_error.specs.CarriedErrors.{run_sums_of}
use Rattle.step_error.specs.RunSums.{run_error_size}
use Rattle.lean_engine.specs.Engine.Targets.{Targets, floor_target}
use Rattle.lean_engine.specs.Engine.Stages.{Nothing, Sized, Finds}
use Rattle.lean_engine.specs.Engine.Tests.{PassesForm}
use Rattle.lean_engine.specs.Engine.Refusals.{PassesMargin}
use Rattle.lean_engine.specs.Engine.declared.aimed.Aim.{Aim}
use Rattle.lean_engine.specs.Refusals.{policy_excess, policy_excess_size, aim_at, HasLeanCauseBy}
use Rattle.overflow_check.specs.FastController.{most_fast_steps}
use Rattle.qp_model.specs.declared.refusal.Refusal.{Refusal}
use Rattle.qp_model.specs.declared.refusal.Refusal.TheVariants.{TooManySteps, TooFine}

-- ---- an aim, with the step exponent s
-- k steps are as many as the aim asks for
abbrev pub AreStepsFor : Aim → (s k : ℕ) → Type 0
AreStepsFor a s = IsFastStepCount s (unsigned_abs a.r) (unsigned_abs a.step_target)

-- f bits are the least with which the errors of a run of k steps cost no more than the aim lets them, where the rows have these exponents
abbrev pub AreFastBitsOf : Design → Aim → (s k : ℕ) → List ℕ → ℕ → Type 0
AreFastBitsOf d a s k exponents = IsChoice (run_sums_of d (form_of d) (unsigned_abs a.r) k s exponents) d.grid (unsigned_abs a.error_target)

-- what the errors of such a run cost at f bits, over 2^40
abbrev pub fast_stated_cost : Design → (r s k : ℕ) → List ℕ → ℕ → ℕ
fast_stated_cost d r s k exponents = epsilon (run_sums_of d (form_of d) r k s exponents)

-- the tests of the systems and the sums
abbrev pub AfterFastBits : Design → Aim → (s k f : ℕ) → Refusal → Type 0
AfterFastBits d a s k f = Sized Descent (descent_size (form_of d) f) (Sized Width (fast_width_size d (unsigned_abs a.r) s k f) Nothing)

-- even at 48 bits the errors of a run are above the limit: what they are there is told
abbrev pub IsFastFine : Design → Aim → (s k : ℕ) → List ℕ → Refusal → Type 0
IsFastFine d a s k exponents e = (e ≡ TooFine (pos (fast_stated_cost d (unsigned_abs a.r) s k exponents 48)))
    × (unsigned_abs a.error_target < fast_stated_cost d (unsigned_abs a.r) s k exponents 48)

-- the tests of the errors and the bits
abbrev pub AfterExponents : Design → Aim → (s k : ℕ) → List ℕ → Refusal → Type 0
AfterExponents d a s k exponents = Sized Error (run_error_size d (form_of d) (unsigned_abs a.r) k s exponents)
    (Finds ℕ (IsFastFine d a s k exponents) (AreFastBitsOf d a s k exponents) (AfterFastBits d a s k))

-- the steps are more than 65534: their number is told
abbrev pub IsFastLong : Aim → ℕ → Refusal → Type 0
IsFastLong a s e = (k : ℕ) × (e ≡ TooManySteps (pos k)) × (AreStepsFor a s k × (most_fast_steps < k))

-- why the aim is missed
abbrev pub HasFastAimCause : Design → Aim → ℕ → Refusal → Type 0
HasFastAimCause d a s = Finds ℕ (IsFastLong a s) (λ k. AreStepsFor a s k × (k ≤ most_fast_steps))
    (λ k. Finds (List ℕ) Nothing (AreExponentsOf d s) (AfterExponents d a s k))

-- ---- a design with a policy and reference plans
-- the quantity `multiplier`, of the margin m
abbrev pub fast_multiplier_size_at : Design → Targets → (plans references : Plans) → Margin → ℕ
fast_multiplier_size_at d t plans references m = fast_multiplier_size (unsigned_abs m.units) (policy_excess d plans references) (floor_target t)

-- Why this refusal is the answer. Out of memory has no cause in the design, the policy and the reference plans.
abbrev pub HasFastCause : Design → Targets → (plans references : Plans) → Refusal → Type 0
HasFastCause = HasLeanCauseBy fast_multiplier_size HasFastAimCause

-- ---- how far a design with a policy and reference plans gets
-- its steps, the exponents of its rows and its bits are those of the aim, and the systems and the controller's sums are within their limits
pub record PassesFastAim (d : Design) (a : Aim) (s k : ℕ) (es : List ℕ) (f : ℕ) : Type 0 where
  pub steps : AreStepsFor a s k
  pub few : k ≤ most_fast_steps
  pub exponents : AreExponentsOf d s es
  pub error : run_error_size d (form_of d) (unsigned_abs a.r) k s es ≤ 2 ^ 126
  pub choice : AreFastBitsOf d a s k es f
  pub descent : descent_size (form_of d) f ≤ 2 ^ 126
  pub width : fast_width_size d (unsigned_abs a.r) s k f ≤ 2 ^ 126

-- it passes every test: the corners have the margin m, the form has the step exponent s, and the excess and R are within their limits
pub record PassesFast (d : Design) (t : Targets) (plans references : Plans) (m : Margin) (s k : ℕ) (exponents : List ℕ) (f : ℕ) : Type 0 where
  pub margin : PassesMargin d t plans m
  pub form : PassesForm d
  pub exponent : IsExponentOf d s
  pub excess : policy_excess_size d plans references ≤ 2 ^ 126
  pub multiplier : fast_multiplier_size_at d t plans references m ≤ 2 ^ 126
  pub aim : PassesFastAim d (aim_at d t plans references m) s k exponents f

-- some numbers do
abbrev pub PassesSomeFastAim : Design → Aim → ℕ → Type 0
PassesSomeFastAim d a s = (k : ℕ) × (exponents : List ℕ) × (f : ℕ) × PassesFastAim d a s k exponents f

abbrev pub PassesSomeFast : Design → Targets → (plans references : Plans) → Type 0
PassesSomeFast d t plans references =
    (m : Margin) × (s : ℕ) × (k : ℕ) × (exponents : List ℕ) × (f : ℕ) × PassesFast d t plans references m s k exponents f

-- ---- at most one refusal has a cause, and none has one where every test is passed
abbrev pub FastCausesLaw : Type 0
FastCausesLaw = (p : DesignParts) (plans references : Plans) (t : Targets) (e other : Refusal) → IsDesign p → IsPolicyFor (design_of p) plans →
    HasFastCause (design_of p) t plans references e → HasFastCause (design_of p) t plans references other → e ≡ other

abbrev pub FastPassingLaw : Type 0
FastPassingLaw = (p : DesignParts) (plans references : Plans) (t : Targets) (m : Margin) (s k : ℕ) (exponents : List ℕ) (f : ℕ) (e : Refusal) → IsDesign p →
    IsPolicyFor (design_of p) plans → PassesFast (design_of p) t plans references m s k exponents f → ¬ HasFastCause (design_of p) t plans references e
