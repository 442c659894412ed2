-- Why a design with a policy and reference plans has no lean controller: the first of these tests, in their order, that it fails. The excess is made of the
-- condensed form's numbers, and so it and R come after the step exponent.
use Rattle.std.specs.Prelude.{ℕ, ◌^◌, ◌≤◌, unsigned_abs}
use Rattle.qp_model.specs.form.Class.{form_of}
use Rattle.qp_model.specs.problem.Design.{Design}
use Rattle.qp_model.specs.problem.Policy.{Plans}
use Rattle.qp_model.specs.bounds.Choices.{lean_multiplier_size}
use Rattle.qp_model.specs.bounds.Excess.{excess_of, excess_size}
use Rattle.qp_model.specs.declared.bounds.Margin.{Margin}
use Rattle.qp_model.specs.declared.quantity.Quantity.TheVariants.{Multiplier, Excess}
use Rattle.hessian_check.specs.Steps.{IsExponentOf}
use Rattle.design_engine.specs.Targets.{Targets, floor_target}
use Rattle.design_engine.specs.Stages.{Sized, OfForm, OfCorners}
use Rattle.design_engine.specs.Tests.{PassesForm, PassesAim, HasAimCause}
use Rattle.design_engine.specs.Refusals.{PassesMargin}
use Rattle.design_engine.specs.declared.aimed.Aim.{Aim}
use Rattle.qp_model.specs.declared.refusal.Refusal.{Refusal}
use Rattle.lean_engine.specs.Lean.{lean_aim}

-- X, and the quantity `excess`
abbrev pub policy_excess : Design → (plans references : Plans) → ℕ
policy_excess d plans references = excess_of d (form_of d) plans references

abbrev pub policy_excess_size : Design → (plans references : Plans) → ℕ
policy_excess_size d plans references = excess_size d (form_of d) plans references

-- the quantity `multiplier`, of the margin m
abbrev pub multiplier_size_at : Design → Targets → (plans references : Plans) → Margin → ℕ
multiplier_size_at d t plans references m = lean_multiplier_size (unsigned_abs m.units) (policy_excess d plans references) (floor_target t)

-- what the targets ask for with the margin m
abbrev pub aim_at : Design → Targets → (plans references : Plans) → Margin → Aim
aim_at d t plans references m = lean_aim t (unsigned_abs m.units) (policy_excess d plans references)

-- ---- how far a design with a policy and reference plans gets
-- the corners have the margin m, and the form has the step exponent s
pub record PassesScaling (d : Design) (t : Targets) (plans : Plans) (m : Margin) (s : ℕ) : Type 0 where
  pub margin : PassesMargin d t plans m
  pub form : PassesForm d
  pub exponent : IsExponentOf d s

-- the excess and R are within their limits
pub record PassesBound (d : Design) (t : Targets) (plans references : Plans) (m : Margin) (s : ℕ) : Type 0 where
  pub before : PassesScaling d t plans m s
  pub excess : policy_excess_size d plans references ≤ 2 ^ 126
  pub multiplier : multiplier_size_at d t plans references m ≤ 2 ^ 126

-- the steps are few enough, f bits are enough for the errors, and the systems and the controller's sums are within their limits
pub record PassesLean (d : Design) (t : Targets) (plans references : Plans) (m : Margin) (s f : ℕ) : Type 0 where
  pub before : PassesBound d t plans references m s
  pub aim : PassesAim d (aim_at d t plans references m) s f

-- some numbers pass every test
abbrev pub PassesSomeLean : Design → Targets → (plans references : Plans) → Type 0
PassesSomeLean d t plans references = (m : Margin) × (s : ℕ) × (f : ℕ) × PassesLean d t plans references m s f

-- ---- the causes
-- By a machine: `size` is its quantity `multiplier` of a slack, an excess and a share, and `Aims` says why an aim is missed with a step exponent.
module _ (size : (units excess share : ℕ) → ℕ) (Aims : Design → Aim → ℕ → Refusal → Type 0) where
  -- the tests after the step exponent: of the excess, of R, and of the aim
  abbrev pub AfterExponent : Design → Targets → (plans references : Plans) → Margin → ℕ → Refusal → Type 0
  AfterExponent d t plans references m s = Sized Excess (policy_excess_size d plans references)
      (Sized Multiplier (size (unsigned_abs m.units) (policy_excess d plans references) (floor_target t)) (Aims d (aim_at d t plans references m) s))

  abbrev pub HasLeanCauseBy : Design → Targets → (plans references : Plans) → Refusal → Type 0
  HasLeanCauseBy d t plans references = OfCorners d plans (λ m. OfForm d (AfterExponent d t plans references m))

-- Why this refusal is the answer. Out of memory has no cause in the design, the policy and the reference plans.
abbrev pub HasLeanCause : Design → Targets → (plans references : Plans) → Refusal → Type 0
HasLeanCause = HasLeanCauseBy lean_multiplier_size HasAimCause
