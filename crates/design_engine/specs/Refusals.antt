-- Why a design with a policy has no controller: the first of these tests, in their order, that it fails.
use Rattle.std.specs.Prelude.{◌≡◌, ◌⊎◌, ℕ, ◌^◌, ◌≤◌, pos, ◌≤ℤ◌}
use Rattle.qp_model.specs.problem.Design.{Design}
use Rattle.qp_model.specs.problem.Policy.{Plans}
use Rattle.qp_model.specs.bounds.CornerClass.{IsMargin}
use Rattle.qp_model.specs.bounds.Choices.{multiplier_size_of}
use Rattle.qp_model.specs.declared.bounds.Margin.{Margin}
use Rattle.qp_model.specs.declared.quantity.Quantity.TheVariants.{Multiplier}
use Rattle.corner_margin.specs.Corners.{HasCornerRoom}
use Rattle.hessian_check.specs.Steps.{IsExponentOf}
use Rattle.design_engine.specs.Targets.{Targets}
use Rattle.design_engine.specs.Aims.{aim_of}
use Rattle.design_engine.specs.Stages.{Sized, OfForm, OfCorners}
use Rattle.design_engine.specs.Tests.{PassesForm, PassesAim, HasAimCause}
use Rattle.qp_model.specs.declared.refusal.Refusal.{Refusal}
use Rattle.qp_model.specs.declared.refusal.Refusal.TheVariants.{Memory}

-- ---- how far a design with a policy gets
-- the corners have the margin m
pub record PassesMargin (d : Design) (t : Targets) (plans : Plans) (m : Margin) : Type 0 where
  pub room : HasCornerRoom d plans
  pub margin : IsMargin d plans m
  pub slack : pos 1 ≤ℤ m.units

-- R and the condensed form are within their limits
pub record PassesSizes (d : Design) (t : Targets) (plans : Plans) (m : Margin) : Type 0 where
  pub before : PassesMargin d t plans m
  pub multiplier : multiplier_size_of m ≤ 2 ^ 126
  pub form : PassesForm d

-- there is a step exponent
pub record PassesExponent (d : Design) (t : Targets) (plans : Plans) (m : Margin) (s : ℕ) : Type 0 where
  pub before : PassesSizes d t plans m
  pub exponent : IsExponentOf d s

-- the steps are few enough, f bits are enough for the errors, and the systems and the controller's sums are within their limits
pub record PassesAll (d : Design) (t : Targets) (plans : Plans) (m : Margin) (s f : ℕ) : Type 0 where
  pub before : PassesExponent d t plans m s
  pub aim : PassesAim d (aim_of t m) s f

-- some numbers pass every test
abbrev pub PassesSome : Design → Targets → Plans → Type 0
PassesSome d t plans = (m : Margin) × (s : ℕ) × (f : ℕ) × PassesAll d t plans m s f

-- ---- the causes
-- the tests after the corners' margin: of R, of the form, and of the aim
abbrev pub AfterMargin : Design → Targets → Margin → Refusal → Type 0
AfterMargin d t m = Sized Multiplier (multiplier_size_of m) (OfForm d (HasAimCause d (aim_of t m)))

-- Why this refusal is the answer. Out of memory has no cause in the design and the policy.
abbrev pub HasCause : Design → Targets → Plans → Refusal → Type 0
HasCause d t plans = OfCorners d plans (AfterMargin d t)

-- out of memory, or with its cause
abbrev pub IsRefused : Design → Targets → Plans → Refusal → Type 0
IsRefused d t plans e = (e ≡ Memory) ⊎ HasCause d t plans e
