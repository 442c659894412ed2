-- A controller of the accelerated machine that is made of a design and a policy alone: R is that of the policy's margin, and a repair is known for all plans. What
-- it is, why there is none, and what it promises. The tests are those of `generate`, in its order, with the numbers of this machine.
use Rattle.std.specs.Prelude.{◌≡◌, ℕ, ◌+◌, ◌*◌, ◌^◌, ◌≤◌, max, List, pos, ◌≤ℤ◌, unsigned_abs, false}
use Rattle.qp_model.specs.form.Class.{form_of}
use Rattle.qp_model.specs.problem.Design.{Design}
use Rattle.qp_model.specs.problem.Parts.{IsDesign, design_of}
use Rattle.qp_model.specs.problem.Policy.{Plans, IsPolicyFor}
use Rattle.qp_model.specs.bounds.Choices.{multiplier_of}
use Rattle.qp_model.specs.bounds.CornerClass.{IsMargin}
use Rattle.qp_model.specs.bounds.Printed.{Printed, printed}
use Rattle.qp_model.specs.bounds.RealErrors.{real_errors}
use Rattle.qp_model.specs.machine.Controller.{Numbers}
use Rattle.qp_model.specs.declared.bounds.Margin.{Margin}
use Rattle.qp_model.specs.declared.design_parts.DesignParts.{DesignParts}
use Rattle.qp_model.specs.declared.quantity.Quantity.TheVariants.{Multiplier}
use Rattle.qp_model.specs.declared.refusal.Refusal.{Refusal}
use Rattle.lean_engine.specs.Steps.{IsExponentOf}
use Rattle.lean_engine.specs.Engine.Aims.{aim_of}
use Rattle.lean_engine.specs.Engine.Bounds.{margin_of, printed_multiplier}
use Rattle.lean_engine.specs.Engine.Refusals.{PassesMargin}
use Rattle.lean_engine.specs.Engine.Stages.{Sized, OfForm, OfCorners}
use Rattle.lean_engine.specs.Engine.Targets.{Targets, targets_of}
use Rattle.lean_engine.specs.Engine.Tests.{PassesForm}
use Rattle.fast_bounds.specs.FastAnswers.{stated_cost_for}
use Rattle.fast_bounds.specs.FastCertified.{cost_for, IsFastMadeWith, AreFastBoundsOf, KeepsFastPromise}
use Rattle.fast_bounds.specs.FastRefusals.{HasFastAimCause, PassesFastAim}
use Rattle.fast_bounds.specs.declared.generation.FastMade.{FastMade}

-- ---- why there is none
-- `multiplier` of a margin: with its R 2^(s + 43) R is below the limit for each step exponent
abbrev pub fast_margin_size : Margin → ℕ
fast_margin_size m = max (2 ^ 16 * unsigned_abs m.cost) (2 ^ 84 * multiplier_of m)

-- the tests after the corners' margin: of R, of the form, and of the aim
abbrev pub AfterFastMargin : Design → Targets → Margin → Refusal → Type 0
AfterFastMargin d t m = Sized Multiplier (fast_margin_size m) (OfForm d (HasFastAimCause d (aim_of t m)))

-- Why this refusal is the answer. Out of memory has no cause in the design and the policy.
abbrev pub HasFastMarginCause : Design → Targets → Plans → Refusal → Type 0
HasFastMarginCause d t plans = OfCorners d plans (AfterFastMargin d t)

-- ---- how far a design with a policy gets
-- it passes every test: the corners have the margin m, R and the form are within their limits, and the form has the step exponent s
pub record PassesFastMargin (d : Design) (t : Targets) (plans : Plans) (m : Margin) (s k : ℕ) (exponents : List ℕ) (f : ℕ) : Type 0 where
  pub margin : PassesMargin d t plans m
  pub multiplier : fast_margin_size m ≤ 2 ^ 126
  pub form : PassesForm d
  pub exponent : IsExponentOf d s
  pub aim : PassesFastAim d (aim_of t m) s k exponents f

-- some numbers do
abbrev pub PassesSomeFastMargin : Design → Targets → Plans → Type 0
PassesSomeFastMargin d t plans = (m : Margin) × (s : ℕ) × (k : ℕ) × (exponents : List ℕ) × (f : ℕ) × PassesFastMargin d t plans m s k exponents f

-- ---- at most one refusal has a cause, and none has one where every test is passed
abbrev pub FastMarginCausesLaw : Type 0
FastMarginCausesLaw = (p : DesignParts) (plans : Plans) (t : Targets) (e other : Refusal) → IsDesign p → IsPolicyFor (design_of p) plans →
    HasFastMarginCause (design_of p) t plans e → HasFastMarginCause (design_of p) t plans other → e ≡ other

abbrev pub FastMarginPassingLaw : Type 0
FastMarginPassingLaw = (p : DesignParts) (plans : Plans) (t : Targets) (m : Margin) (s k : ℕ) (exponents : List ℕ) (f : ℕ) (e : Refusal) → IsDesign p →
    IsPolicyFor (design_of p) plans → PassesFastMargin (design_of p) t plans m s k exponents f → ¬ HasFastMarginCause (design_of p) t plans e

-- ---- what is made
-- the controller and the bounds are those of a design and a policy, whose margin the bounds print
pub record IsFastMarginBuilt (p : DesignParts) (plans : Plans) (c : Numbers) (b : Printed) : Type 0 where
  pub policy : IsPolicyFor (design_of p) plans
  pub margin : IsMargin (design_of p) plans (margin_of b)
  pub slack : pos 1 ≤ℤ b.margin
  pub made : IsFastMadeWith p (aim_of (targets_of p) (margin_of b)) c
  pub lean : b.lean ≡ false
  pub bounds : AreFastBoundsOf c b (printed_multiplier b)
      (cost_for p (form_of (design_of p)) (printed_multiplier b) c (real_errors (design_of p) (form_of (design_of p)) (printed_multiplier b) c))

-- so is what is made, with what is stated of the errors of its run
pub record IsFastMarginBuiltAs (p : DesignParts) (plans : Plans) (m : FastMade) : Type 0 where
  pub built : IsFastMarginBuilt p plans m.controller (printed m.bounds)
  pub errors : m.eps ≡ pos (stated_cost_for (design_of p) (printed_multiplier (printed m.bounds)) m.controller)

-- The controller keeps the whole promise of the bounds, at every state of the box; and the bounds meet the targets.
abbrev pub FastMarginLaw : Type 0
FastMarginLaw = (p : DesignParts) (plans : Plans) (c : Numbers) (b : Printed) → IsFastMarginBuilt p plans c b → KeepsFastPromise p c b
