-- From what a controller is made of to what it is certified for.
use Rattle.std.specs.Prelude.{◌≡◌, ℕ, ◌<◌, ◌≤◌, ℤ, pos, ◌≤ℤ◌, List, length}
use Rattle.integer_algebra.specs.Sums.{at}
use Rattle.qp_model.specs.form.Form.{Form, IsFormFor}
use Rattle.qp_model.specs.problem.Parts.{IsDesign, design_of}
use Rattle.qp_model.specs.problem.Policy.{Plans, IsPolicyFor}
use Rattle.qp_model.specs.bounds.CornerClass.{IsMargin}
use Rattle.qp_model.specs.bounds.Choices.{step_count}
use Rattle.qp_model.specs.problem.Box.{IsGridState}
use Rattle.qp_model.specs.bounds.Errors.{StepErrors, cost_of_errors}
use Rattle.qp_model.specs.bounds.Built.{IsDerivedFrom}
use Rattle.qp_model.specs.machine.Controller.{Numbers}
use Rattle.qp_model.specs.machine.Machine.{exponent_of}
use Rattle.qp_model.specs.machine.AbsoluteSums.{IsController}
use Rattle.qp_model.specs.bounds.Certified.{IsCertified}
use Rattle.qp_model.specs.declared.design_parts.DesignParts.{DesignParts}
use Rattle.qp_model.specs.bounds.Printed.{Printed}
use Rattle.step_error.specs.MachineLaws.{HasErrors}
use Rattle.design_engine.specs.Targets.{targets_of, half_target, error_limit, IsWithinTargets}
use Rattle.design_engine.specs.Bounds.{margin_of, printed_multiplier, AreBoundsOf}

-- what the promise rests on: a controller that is made for a design by a form of it, with the margin of a policy; bounds on the errors of its steps, at
-- every state of the box; and what is printed of both
pub record IsBacked (p : DesignParts) (plans : Plans) (h : Form) (e : StepErrors) (c : Numbers) (b : Printed) : Type 0 where
  pub design : IsDesign p
  pub policy : IsPolicyFor (design_of p) plans
  pub margin : IsMargin (design_of p) plans (margin_of b)
  pub slack : pos 1 ≤ℤ b.margin
  pub form : IsFormFor (design_of p) h
  pub controller : IsController c
  pub made : IsDerivedFrom (design_of p) h (printed_multiplier b) c
  pub errors : (xi : List ℤ) → length xi ≡ (design_of p).states → IsGridState (design_of p) (at xi) → (k : ℕ) → k < c.steps →
      HasErrors (design_of p) h (printed_multiplier b) c xi k e
  pub bounds : AreBoundsOf c b (cost_of_errors (design_of p) h (printed_multiplier b) c.fraction_bits e)

-- it keeps the whole promise, at every state of the box
abbrev pub CertifiedLaw : Type 0
CertifiedLaw = (p : DesignParts) (plans : Plans) (h : Form) (e : StepErrors) (c : Numbers) (b : Printed) → IsBacked p plans h e c b → IsCertified (design_of p) c b

-- its steps, and the cost of its errors that the bounds print, are as the targets ask
pub record IsAimed (p : DesignParts) (cost : ℕ) (c : Numbers) (b : Printed) : Type 0 where
  pub design : IsDesign p
  pub steps : c.steps ≡ step_count c.step_exponent (printed_multiplier b) (half_target (targets_of p))
  pub errors : cost ≤ error_limit (targets_of p) (printed_multiplier b)
  -- no row has a greater exponent than the step
  pub exponents : (i : ℕ) → i < c.rows → exponent_of c i ≤ c.step_exponent
  pub bounds : AreBoundsOf c b cost

abbrev pub TargetsLaw : Type 0
TargetsLaw = (p : DesignParts) (cost : ℕ) (c : Numbers) (b : Printed) → IsAimed p cost c b → IsWithinTargets (targets_of p) b
