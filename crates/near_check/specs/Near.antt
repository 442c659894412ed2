-- How near the first inputs of a controller's averaged plan are to those of the plan that the multipliers 0 give, an affine law of the state, also where
-- limits bind: by what a policy costs more than the best plan without limits.
use Rattle.std.specs.Prelude.{◌≡◌, ℕ, ◌+◌, ◌*◌, ◌^◌, ◌<◌, ◌≤◌, ℤ, pos, ◌-ℤ◌, ◌*ℤ◌, ◌≤ℤ◌, List, length, unsigned_abs}
use Rattle.integer_algebra.specs.Sums.{at}
use Rattle.integer_algebra.specs.Bounds.{IsWithin}
use Rattle.integer_algebra.specs.Division.{ceil_div}
use Rattle.qp_model.specs.problem.Design.{Design}
use Rattle.qp_model.specs.problem.Parts.{IsDesign, design_of}
use Rattle.qp_model.specs.problem.Box.{IsGridState}
use Rattle.qp_model.specs.problem.Policy.{Plans, IsPolicyFor}
use Rattle.qp_model.specs.form.Form.{Form, IsFormFor}
use Rattle.qp_model.specs.machine.Controller.{Numbers}
use Rattle.qp_model.specs.machine.AbsoluteSums.{IsController}
use Rattle.qp_model.specs.machine.Machine.{average_denominator, averaged_plan}
use Rattle.qp_model.specs.bounds.Built.{IsDerivedFrom}
use Rattle.qp_model.specs.bounds.Errors.{error_sums_of, radius_error, StepErrors}
use Rattle.qp_model.specs.bounds.RealErrors.{real_errors}
use Rattle.qp_model.specs.bounds.Certified.{CostsNoMoreThanFeasible, IsCertified}
use Rattle.qp_model.specs.bounds.Printed.{Printed}
use Rattle.qp_model.specs.declared.design_parts.DesignParts.{DesignParts}
use Rattle.dual_bounds.specs.Corners.{KeepsExcess, HasExcessAt}
use Rattle.step_error.specs.MachineLaws.{IsRunOf, HasErrors}
use Rattle.settle_check.specs.Still.{still_entry}
use Rattle.near_check.specs.Distance.{IsFar}

-- from the state xi each input is within beta / 2^20 of the law's
abbrev pub IsNear : Numbers → (beta : ℕ → ℕ) → List ℤ → Type 0
IsNear c beta xi = (l : ℕ) → l < c.inputs →
    IsWithin (pos (beta l * average_denominator c)) (pos (2 ^ 20) *ℤ (at (averaged_plan c xi) l -ℤ pos c.steps *ℤ still_entry c xi l))

-- ---- how far that is
-- the gradient at the law's plan: entry j at most, over 2^20, by the errors of the first step
abbrev pub first_slope : Design → Form → (r f : ℕ) → StepErrors → ℕ → ℕ
first_slope d h r f e j = ceil_div (2 ^ 40 * e.gradient j + 2 ^ f * radius_error (error_sums_of d h r) e.plan) (2 ^ (f + 20))

-- each beta is far enough for a plan that costs at most gap / 2^40 more than any feasible one, where one costs at most excess / 2^16 more than any plan
abbrev pub AreFar : Design → Form → (r f : ℕ) → StepErrors → (gap excess : ℕ) → (beta : ℕ → ℕ) → Type 0
AreFar d h r f e gap excess beta = (l : ℕ) → l < d.inputs → IsFar d (first_slope d h r f e) (gap + 2 ^ 24 * excess) l (beta l)

-- ---- the laws
-- of one run
abbrev pub NearLaw : Type 0
NearLaw = (p : DesignParts) (h : Form) (r : ℕ) (c : Numbers) (xi : List ℤ) → IsRunOf p h r c xi →
    (e : StepErrors) → HasErrors (design_of p) h r c xi 0 e → (gap excess : ℕ) (units : ℤ) → pos 0 ≤ℤ units →
    CostsNoMoreThanFeasible (design_of p) (at xi) (pos (average_denominator c)) (at (averaged_plan c xi)) (pos gap) →
    HasExcessAt (design_of p) units (pos excess) (at xi) →
    (beta : ℕ → ℕ) → AreFar (design_of p) h r c.fraction_bits e gap excess beta → IsNear c beta xi

-- A controller that is made for a design and certified with the bounds b, as `generate` and `lean` make it; a policy of feasible plans, which may be
-- another than the controller's; and distances that are far enough for its excess.
pub record IsNearBy (p : DesignParts) (h : Form) (r : ℕ) (c : Numbers) (b : Printed) (plans : Plans) (units : ℤ) (excess : ℕ) (beta : ℕ → ℕ) : Type 0 where
  pub design : IsDesign p
  pub bound : 1 ≤ r
  pub form : IsFormFor (design_of p) h
  pub controller : IsController c
  pub made : IsDerivedFrom (design_of p) h r c
  pub certified : IsCertified (design_of p) c b
  pub policy : IsPolicyFor (design_of p) plans
  pub feasible : pos 0 ≤ℤ units
  pub corners : KeepsExcess (design_of p) plans units (pos excess)
  pub far : AreFar (design_of p) h r c.fraction_bits (real_errors (design_of p) h r c) (unsigned_abs b.gap) excess beta

-- of every run from a grid state of the box
abbrev pub CertifiedNearLaw : Type 0
CertifiedNearLaw = (p : DesignParts) (h : Form) (r : ℕ) (c : Numbers) (b : Printed) (plans : Plans) (units : ℤ) (excess : ℕ) (beta : ℕ → ℕ) →
    IsNearBy p h r c b plans units excess beta → (xi : List ℤ) → length xi ≡ (design_of p).states → IsGridState (design_of p) (at xi) → IsNear c beta xi
