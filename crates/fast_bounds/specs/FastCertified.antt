-- What a controller of the accelerated machine is certified for, and what that rests on: in each bound k (k + 3) stands for the k steps of the plain machine,
-- and each step exponent is greater by two.
use Rattle.std.specs.Prelude.{◌≡◌, ℕ, ◌+◌, ◌^◌, ◌≤◌, ℤ, pos, ◌≤ℤ◌, List, length, unsigned_abs}
use Rattle.integer_algebra.specs.Sums.{at}
use Rattle.qp_model.specs.problem.Design.{Design}
use Rattle.qp_model.specs.problem.Parts.{IsDesign, design_of}
use Rattle.qp_model.specs.problem.Policy.{Plans}
use Rattle.qp_model.specs.problem.Box.{IsGridState}
use Rattle.qp_model.specs.form.Class.{form_of, hessian_quantity}
use Rattle.qp_model.specs.form.Form.{Form, IsFormFor}
use Rattle.qp_model.specs.machine.Controller.{Numbers}
use Rattle.qp_model.specs.bounds.Built.{IsDerivedFrom}
use Rattle.qp_model.specs.bounds.Certified.{KeepsBounds}
use Rattle.qp_model.specs.bounds.Choices.{row_violation_bound, violation_bound, lean_row_violation}
use Rattle.qp_model.specs.bounds.Errors.{StepErrors}
use Rattle.qp_model.specs.bounds.Printed.{Printed}
use Rattle.qp_model.specs.bounds.RealErrors.{real_errors}
use Rattle.qp_model.specs.declared.design_parts.DesignParts.{DesignParts}
use Rattle.overflow_check.specs.Width.{IsWidth}
use Rattle.dual_bounds.specs.FastSteps.{quarter_steps, IsFastStepCount}
use Rattle.lean_engine.specs.Engine.RowExponents.{AreExponentsOf}
use Rattle.lean_engine.specs.Steps.{IsExponentOf}
use Rattle.step_error.specs.Choice.{IsChoice}
use Rattle.lean_engine.specs.Engine.Bounds.{AreBoundsWith}
use Rattle.lean_engine.specs.Engine.Targets.{targets_of, IsWithinTargets}
use Rattle.lean_engine.specs.Engine.Threshold.{HasRepairs, IsEnoughOf}
use Rattle.lean_engine.specs.Engine.declared.aimed.Aim.{Aim}
use Rattle.lean_engine.specs.Lean.{IsLeanBuiltBy}
use Rattle.overflow_check.specs.FastMachine.{fast_denominator, fast_plan}
use Rattle.overflow_check.specs.FastController.{IsFastController, greatest_fast_sum}
use Rattle.fast_machine.specs.FastValues.{FastRunFits}
use Rattle.step_error.specs.CarriedErrors.{with_means, cost_of_run, run_sums_of}
use Rattle.fast_bounds.specs.FastDesign.{HasFastRunErrors}

-- ---- the promise
-- the run from a state: each value fits the printed width, the steps are the printed ones, and the averaged plan keeps the printed bounds
pub record IsFastCertifiedAt (d : Design) (c : Numbers) (b : Printed) (xi : List ℤ) : Type 0 where
  pub values : FastRunFits b.width c xi
  pub steps : c.steps ≡ b.steps
  pub plan : KeepsBounds d b (at xi) (pos (fast_denominator c)) (at (fast_plan c xi))

-- at every grid state of the box
abbrev pub IsFastCertified : Design → Numbers → Printed → Type 0
IsFastCertified d c b = (xi : List ℤ) → length xi ≡ d.states → IsGridState d (at xi) → IsFastCertifiedAt d c b xi

-- ---- bounds
-- the bounds by R, where a repair is known for the threshold
abbrev pub AreFastThresholdBoundsOf : (c : Numbers) (b : Printed) (r threshold cost : ℕ) → Type 0
AreFastThresholdBoundsOf c b r threshold cost = AreBoundsWith c b r cost (lean_row_violation (c.step_exponent + 2) r (quarter_steps c.steps) cost threshold)
    (λ e. lean_row_violation (e + 2) r (quarter_steps c.steps) cost threshold) threshold

-- and where one is known for the violation of all rows
abbrev pub AreFastBoundsOf : (c : Numbers) (b : Printed) (r cost : ℕ) → Type 0
AreFastBoundsOf c b r cost = AreBoundsWith c b r cost (violation_bound (c.step_exponent + 2) r (quarter_steps c.steps) cost)
    (λ e. row_violation_bound (e + 2) (c.step_exponent + 2) r (quarter_steps c.steps) cost) (violation_bound (c.step_exponent + 2) r (quarter_steps c.steps) cost)

-- ---- what they rest on
-- a controller that is made for a design by a form of it with multipliers of at most 2 r; bounds on the errors of its steps, at every state of the box; and
-- repairs
pub record IsFastSupported (p : DesignParts) (h : Form) (e : StepErrors) (c : Numbers) (r threshold : ℕ) : Type 0 where
  pub design : IsDesign p
  pub some : 1 ≤ r
  pub form : IsFormFor (design_of p) h
  pub controller : IsFastController c
  pub made : IsDerivedFrom (design_of p) h r c
  pub errors : (xi : List ℤ) → length xi ≡ (design_of p).states → IsGridState (design_of p) (at xi) → HasFastRunErrors (design_of p) h r c xi e
  pub repairs : HasRepairs (design_of p) r threshold

-- what the errors e of each of its steps cost a run
abbrev pub cost_for : DesignParts → Form → (r : ℕ) → Numbers → StepErrors → ℕ
cost_for p h r c e = cost_of_run (design_of p) h r c.fraction_bits c.steps (with_means h c.step_exponent c.exponents e)

-- with repairs for what exceeds some row by more than a threshold, which is at least what steps and errors leave, and with repairs for all
pub record FastCertifiedLaw : Type 0 where
  pub above : (p : DesignParts) (h : Form) (e : StepErrors) (c : Numbers) (b : Printed) (r threshold : ℕ) → IsFastSupported p h e c r threshold →
      IsEnoughOf (quarter_steps c.steps) (c.step_exponent + 2) r threshold (cost_for p h r c e) →
      AreFastThresholdBoundsOf c b r threshold (cost_for p h r c e) → IsFastCertified (design_of p) c b
  pub all : (p : DesignParts) (h : Form) (e : StepErrors) (c : Numbers) (b : Printed) (r : ℕ) → IsFastSupported p h e c r 0 →
      AreFastBoundsOf c b r (cost_for p h r c e) → IsFastCertified (design_of p) c b

-- ---- made for a design
-- with an aim: with R, and as many steps and fraction bits as its targets ask for
pub record IsFastMadeWith (p : DesignParts) (a : Aim) (c : Numbers) : Type 0 where
  pub design : IsDesign p
  pub narrow : hessian_quantity (design_of p) ≤ 2 ^ 126
  pub controller : IsFastController c
  pub made : IsDerivedFrom (design_of p) (form_of (design_of p)) (unsigned_abs a.r) c
  pub exponent : IsExponentOf (design_of p) c.step_exponent
  pub exponents : AreExponentsOf (design_of p) c.step_exponent c.exponents
  pub steps : IsFastStepCount c.step_exponent (unsigned_abs a.r) (unsigned_abs a.step_target) c.steps
  pub bits : IsChoice (run_sums_of (design_of p) (form_of (design_of p)) (unsigned_abs a.r) c.steps c.step_exponent c.exponents) (design_of p).grid
      (unsigned_abs a.error_target) c.fraction_bits
  pub width : IsWidth (greatest_fast_sum c) c.width

-- the controller and the bounds are those of a design, a policy and reference plans, as a lean controller of the plain machine and its bounds are
abbrev pub IsFastBuilt : DesignParts → (plans references : Plans) → Numbers → Printed → Type 0
IsFastBuilt p = IsLeanBuiltBy (IsFastMadeWith p)
    (λ c b r threshold. AreFastThresholdBoundsOf c b r threshold (cost_for p (form_of (design_of p)) r c (real_errors (design_of p) (form_of (design_of p)) r c))) p

-- it keeps the whole promise of its bounds, which meet the targets
pub record KeepsFastPromise (p : DesignParts) (c : Numbers) (b : Printed) : Type 0 where
  pub certified : IsFastCertified (design_of p) c b
  pub within : IsWithinTargets (targets_of p) b

-- The controller keeps the whole promise of the bounds, at every state of the box, whatever the reference plans are; and the bounds meet the targets.
abbrev pub FastLeanLaw : Type 0
FastLeanLaw = (p : DesignParts) (plans references : Plans) (c : Numbers) (b : Printed) → IsFastBuilt p plans references c b → KeepsFastPromise p c b
