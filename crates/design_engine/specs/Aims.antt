-- What a controller is made with beside its design: R, what the steps may leave of the violation, and what the errors of a step may cost.
use Rattle.std.specs.Prelude.{◌≡◌, ℕ, ◌≤◌, ◌^◌, pos, ◌≤ℤ◌, unsigned_abs}
use Rattle.qp_model.specs.form.Class.{form_of, hessian_quantity}
use Rattle.qp_model.specs.form.Curvature.{IsExponent}
use Rattle.qp_model.specs.problem.Design.{Design}
use Rattle.qp_model.specs.problem.Parts.{IsDesign, design_of}
use Rattle.qp_model.specs.bounds.Choices.{step_count}
use Rattle.qp_model.specs.bounds.Errors.{error_sums_of}
use Rattle.qp_model.specs.bounds.Built.{IsDerivedFrom}
use Rattle.qp_model.specs.bounds.RealErrors.{real_cost}
use Rattle.qp_model.specs.machine.Controller.{Numbers}
use Rattle.qp_model.specs.machine.AbsoluteSums.{IsController, greatest_sum}
use Rattle.qp_model.specs.declared.design_parts.DesignParts.{DesignParts}
use Rattle.overflow_check.specs.Width.{IsWidth}
use Rattle.condensed_form.specs.Form.{IsFormOf}
use Rattle.hessian_check.specs.Steps.{IsExponentOf, OfDesign}
use Rattle.hessian_check.specs.RowExponents.{AreExponentsOf}
use Rattle.step_error.specs.Choice.{IsChoice}
use Rattle.qp_model.specs.declared.bounds.Margin.{Margin}
use Rattle.qp_model.specs.bounds.Choices.{multiplier_of}
use Rattle.design_engine.specs.Targets.{Targets, half_target, error_limit}
use Rattle.design_engine.specs.Bounds.{stated_cost}
use Rattle.design_engine.specs.declared.aimed.Aim.{Aim}
use Rattle.design_engine.specs.declared.aimed.Aimed.{Aimed}
use Rattle.design_engine.specs.declared.aimed.SteppedForm.{SteppedForm}

-- what the targets ask for with a margin: half of the violation's is for the steps, and half for the errors
abbrev pub aim_of : Targets → Margin → Aim
aim_of t m = record { r = pos (multiplier_of m); step_target = pos (half_target t); error_target = pos (error_limit t (multiplier_of m)) }

-- the numbers of an aim lie in their ranges
pub record IsAim (a : Aim) : Type 0 where
  pub some : pos 1 ≤ℤ a.r
  pub narrow : a.r ≤ℤ pos (2 ^ 44)
  pub steps : pos 1 ≤ℤ a.step_target
  pub errors : pos 1 ≤ℤ a.error_target
  pub small : a.error_target ≤ℤ pos (2 ^ 71)

-- K, of an aim and the step exponent s
abbrev pub steps_of : Aim → ℕ → ℕ
steps_of a s = step_count s (unsigned_abs a.r) (unsigned_abs a.step_target)

-- f bits are the least with which the errors cost no more than the aim lets them
abbrev pub AreBitsOf : Design → Aim → ℕ → Type 0
AreBitsOf d a f = IsChoice (error_sums_of d (form_of d) (unsigned_abs a.r)) d.grid (unsigned_abs a.error_target) f

-- a design's condensed form and its step exponent
pub record IsSteppedFormOf (p : DesignParts) (x : SteppedForm) : Type 0 where
  pub form : IsFormOf p x.condensed
  pub exponent : OfDesign x.condensed (λ d. IsExponentOf d x.s)
  pub curved : IsExponent (design_of p) x.s

-- The controller is made for a design with an aim: with R, and as many steps and fraction bits as its targets ask for. The policy enters by the aim alone.
pub record IsMadeWith (p : DesignParts) (a : Aim) (c : Numbers) : Type 0 where
  pub design : IsDesign p
  -- so the form is one that a controller may be made of
  pub narrow : hessian_quantity (design_of p) ≤ 2 ^ 126
  pub controller : IsController c
  pub version : c.version ≡ (design_of p).version
  pub made : IsDerivedFrom (design_of p) (form_of (design_of p)) (unsigned_abs a.r) c
  pub exponent : IsExponentOf (design_of p) c.step_exponent
  pub exponents : AreExponentsOf (design_of p) c.step_exponent c.exponents
  pub steps : c.steps ≡ steps_of a c.step_exponent
  pub bits : AreBitsOf (design_of p) a c.fraction_bits
  pub width : IsWidth (greatest_sum c) c.width

-- the same with what the errors of its steps cost: by the residuals that its gains leave, and whichever good solutions they are
pub record IsAimedOf (p : DesignParts) (a : Aim) (x : Aimed) : Type 0 where
  pub made : IsMadeWith p a x.controller
  pub cost : x.cost ≡ pos (real_cost (design_of p) (form_of (design_of p)) (unsigned_abs a.r) x.controller)
  pub errors : x.eps ≡ pos (stated_cost (design_of p) (unsigned_abs a.r) x.controller.fraction_bits)
