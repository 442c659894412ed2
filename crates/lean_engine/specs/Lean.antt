-- A controller and its bounds as they are made of a design, a policy and reference plans: R rests on the excess that these show of the policy's plans, and on
-- what the violation may be.
use Rattle.std.specs.Prelude.{◌≡◌, ℕ, ◌*◌, min, ℤ, pos, ◌≤ℤ◌, unsigned_abs, Some, true}
use Rattle.qp_model.specs.form.Class.{form_of}
use Rattle.qp_model.specs.problem.Parts.{design_of}
use Rattle.qp_model.specs.problem.Policy.{Plans, IsPolicyFor}
use Rattle.qp_model.specs.bounds.CornerClass.{IsMargin}
use Rattle.qp_model.specs.bounds.Choices.{lean_multiplier}
use Rattle.qp_model.specs.bounds.Excess.{excess_of}
use Rattle.qp_model.specs.bounds.RealErrors.{real_cost}
use Rattle.qp_model.specs.machine.Controller.{Numbers}
use Rattle.qp_model.specs.declared.design_parts.DesignParts.{DesignParts}
use Rattle.qp_model.specs.bounds.Printed.{Printed, printed}
use Rattle.design_engine.specs.Targets.{Targets, targets_of, gap_target, violation_target, step_target, rest_target, floor_target}
use Rattle.design_engine.specs.Aims.{IsMadeWith}
use Rattle.design_engine.specs.Bounds.{stated_cost, AreThresholdBoundsOf}
use Rattle.design_engine.specs.Threshold.{KeepsPromise}
use Rattle.design_engine.specs.declared.aimed.Aim.{Aim}
use Rattle.design_engine.specs.declared.bounds.Terms.{Terms}
use Rattle.design_engine.specs.declared.generation.Made.{Made}

-- R, of a slack and an excess over 2^16: only what exceeds the violation's target needs a multiplier
abbrev pub bound_of : Targets → (units excess : ℕ) → ℕ
bound_of t units excess = lean_multiplier units excess (floor_target t)

-- what the targets ask for with them: 15/16 of the violation's is for the steps, and 1/16 for the errors
abbrev pub lean_aim : Targets → (units excess : ℕ) → Aim
lean_aim t units excess = record {
  r = pos (bound_of t units excess);
  step_target = pos (step_target t);
  error_target = pos (min (gap_target t) (bound_of t units excess * rest_target t));
}

-- the terms that these are
abbrev pub lean_terms : Targets → (units excess : ℕ) → Terms
lean_terms t units excess = record { aim = lean_aim t units excess; units = pos units; cost = pos excess; target = Some (pos (violation_target t)) }

-- the controller and the bounds are those of a design, a policy and reference plans: the bounds print the least slack of the policy's plans, and the excess that
-- the reference plans show of them; by a machine, for which this says what is made with an aim, and what are the bounds by R and a threshold
pub record IsLeanBuiltBy (Made : Aim → Numbers → Type 0) (AreBounds : Numbers → Printed → (r threshold : ℕ) → Type 0) (p : DesignParts) (plans references : Plans)
    (c : Numbers) (b : Printed) : Type 0 where
  pub policy : IsPolicyFor (design_of p) plans
  pub reference : IsPolicyFor (design_of p) references
  -- the greatest cost of the corners is in no bound
  pub greatest_cost : ℤ
  pub margin : IsMargin (design_of p) plans (record { units = b.margin; cost = greatest_cost })
  pub slack : pos 1 ≤ℤ b.margin
  pub excess : b.cost ≡ pos (excess_of (design_of p) (form_of (design_of p)) plans references)
  pub made : Made (lean_aim (targets_of p) (unsigned_abs b.margin) (unsigned_abs b.cost)) c
  pub lean : b.lean ≡ true
  pub bounds : AreBounds c b (bound_of (targets_of p) (unsigned_abs b.margin) (unsigned_abs b.cost)) (violation_target (targets_of p))

abbrev pub IsLeanBuilt : DesignParts → (plans references : Plans) → Numbers → Printed → Type 0
IsLeanBuilt p = IsLeanBuiltBy (IsMadeWith p) (λ c b r threshold. AreThresholdBoundsOf c b r threshold (real_cost (design_of p) (form_of (design_of p)) r c)) p

-- so is what is made, with what is stated of the errors of its steps
pub record IsLeanBuiltAs (p : DesignParts) (plans references : Plans) (m : Made) : Type 0 where
  pub built : IsLeanBuilt p plans references m.controller (printed m.bounds)
  pub errors : m.eps ≡ pos (stated_cost (design_of p) (unsigned_abs m.bounds.multiplier) m.controller.fraction_bits)

-- The controller keeps the whole promise of the bounds, at every state of the box, whatever the reference plans are; and the bounds meet the targets.
abbrev pub LeanLaw : Type 0
LeanLaw = (p : DesignParts) (plans references : Plans) (c : Numbers) (b : Printed) → IsLeanBuilt p plans references c b → KeepsPromise p c b
