-- What is made for a design with an aim, with terms, and with a policy and reference plans; how far it got; and what an answer tells of both.
use Rattle.std.specs.Prelude.{◌≡◌, ℕ, pos, unsigned_abs, Result, IfOk, IfErr, OnOk}
use Rattle.qp_model.specs.form.Class.{form_of}
use Rattle.qp_model.specs.problem.Design.{Design}
use Rattle.qp_model.specs.problem.Parts.{design_of}
use Rattle.qp_model.specs.problem.Policy.{Plans}
use Rattle.qp_model.specs.bounds.Printed.{printed}
use Rattle.qp_model.specs.bounds.RealErrors.{real_errors}
use Rattle.qp_model.specs.machine.Controller.{Numbers}
use Rattle.qp_model.specs.declared.design_parts.DesignParts.{DesignParts}
use Rattle.qp_model.specs.declared.refusal.Refusal.{Refusal}
use Rattle.condensed_form.specs.declared.condensed.Condensed.{Condensed}
use Rattle.step_error.specs.Made.{IsRunMadeFor}
use Rattle.step_error.specs.declared.sums.ErrorSums.{ErrorSums}
use Rattle.lean_engine.specs.Engine.Tests.{IsRefusedFor}
use Rattle.lean_engine.specs.Engine.declared.aimed.Aim.{Aim}
use Rattle.lean_engine.specs.Engine.declared.bounds.Terms.{Terms}
use Rattle.fast_bounds.specs.FastCertified.{cost_for, IsFastMadeWith, IsFastBuilt}
use Rattle.fast_bounds.specs.FastRefusals.{fast_stated_cost}
use Rattle.fast_bounds.specs.FastTerms.{AreRunNumbersOf, AreFastPrintedOf}
use Rattle.fast_bounds.specs.declared.aimed.FastRun.{FastRun}
use Rattle.fast_bounds.specs.declared.aimed.FastAimed.{FastAimed}
use Rattle.fast_bounds.specs.declared.generation.FastMade.{FastMade}

-- ---- what the errors of a run of a controller cost, over 2^40
-- by the residuals that its gains leave
abbrev pub real_cost_for : DesignParts → (r : ℕ) → Numbers → ℕ
real_cost_for p r c = cost_for p (form_of (design_of p)) r c (real_errors (design_of p) (form_of (design_of p)) r c)

-- by the stated ones, which bound those of any good gains
abbrev pub stated_cost_for : Design → (r : ℕ) → Numbers → ℕ
stated_cost_for d r c = fast_stated_cost d r c.step_exponent c.steps c.exponents c.fraction_bits

-- ---- what is made
-- the run that an aim asks for, with the step exponent s
abbrev pub IsRunForAim : DesignParts → Aim → ℕ → FastRun → Type 0
IsRunForAim p a s x = AreRunNumbersOf p a s x.steps x.exps.items x.numbers

-- a controller with an aim, and what the errors of its run cost
pub record IsFastAimedOf (p : DesignParts) (a : Aim) (x : FastAimed) : Type 0 where
  pub made : IsFastMadeWith p a x.controller
  pub cost : x.cost ≡ pos (real_cost_for p (unsigned_abs a.r) x.controller)
  pub errors : x.eps ≡ pos (stated_cost_for (design_of p) (unsigned_abs a.r) x.controller)

-- a controller and its bounds with terms
pub record IsFastMadeBy (p : DesignParts) (x : Terms) (m : FastMade) : Type 0 where
  pub controller : IsFastMadeWith p x.aim m.controller
  pub bounds : AreFastPrintedOf x m.controller (real_cost_for p (unsigned_abs x.aim.r) m.controller) (printed m.bounds)
  pub errors : m.eps ≡ pos (stated_cost_for (design_of p) (unsigned_abs x.aim.r) m.controller)

-- those of a policy and reference plans
pub record IsFastBuiltAs (p : DesignParts) (plans references : Plans) (m : FastMade) : Type 0 where
  pub built : IsFastBuilt p plans references m.controller (printed m.bounds)
  pub errors : m.eps ≡ pos (stated_cost_for (design_of p) (unsigned_abs m.bounds.multiplier) m.controller)

-- ---- what a controller's real errors are computed from
-- the form c and the sums e of a run of the controller k are those of the design p with multipliers up to 2 r, and k's gains solve its systems
abbrev pub IsFastGivenFor : DesignParts → ℕ → Condensed → ErrorSums → Numbers → Type 0
IsFastGivenFor p r c e k = IsRunMadeFor p r c e k.state_gains k.offsets k.dual_gains k.fraction_bits k.steps k.step_exponent k.exponents

-- ---- what an answer tells: what is made, that the tests are passed where something is, and the cause of a refusal
pub record TellsOf (A : Type 0) (is : A → Type 0) (passed : Type 0) (cause : Refusal → Type 0) (r : Result A Refusal) : Type 0 where
  pub made : IfOk r is
  pub passes : OnOk r passed
  pub refused : IfErr r (IsRefusedFor cause)
