-- What a design with a policy calls for, with reference plans or without, and what is made of them: a controller of the accelerated machine where the design asks
-- for that machine.
use Rattle.std.specs.Prelude.{ℕ, Bool, true, false, List, Option, Some, None, option_map}
use Rattle.qp_model.specs.problem.Design.{Design}
use Rattle.qp_model.specs.problem.Policy.{Plans}
use Rattle.qp_model.specs.problem.Parts.{design_of}
use Rattle.qp_model.specs.machine.Controller.{Numbers}
use Rattle.qp_model.specs.bounds.Certified.{IsCertified}
use Rattle.qp_model.specs.declared.design_parts.DesignParts.{DesignParts}
use Rattle.qp_model.specs.declared.policy.Policy.{Policy}
use Rattle.qp_model.specs.problem.Policy.{plans_of}
use Rattle.qp_model.specs.bounds.Printed.{Printed}
use Rattle.qp_model.specs.declared.bounds.Margin.{Margin}
use Rattle.qp_model.specs.declared.refusal.Refusal.{Refusal}
use Rattle.lean_engine.specs.Lean.{IsLeanBuilt}
use Rattle.lean_engine.specs.Refusals.{HasLeanCause, PassesLean}
use Rattle.qp_model.specs.text.ControllerText.{IsControllerText}
use Rattle.controller_text.specs.TextForm.{IsFastControllerText}
use Rattle.fast_bounds.specs.FastCertified.{IsFastBuilt, IsFastCertified}
use Rattle.fast_bounds.specs.FastRefusals.{HasFastCause, PassesFast}
use Rattle.fast_bounds.specs.FastMargin.{HasFastMarginCause, PassesFastMargin, IsFastMarginBuilt}
use Rattle.command_line.specs.declared.status.Status.{Status}
use Rattle.command_generate.specs.Engine.Targets.{Targets, targets_of, IsWithinTargets}
use Rattle.command_generate.specs.Engine.Refusals.{HasCause, PassesAll}
use Rattle.command_generate.specs.Made.{CallsFor, IsMadeOf}

-- ---- the answer
-- every test is passed with these
abbrev pub PassesPlainBy : Design → Targets → Plans → (reference : Option Plans) → Margin → (s f : ℕ) → Type 0
PassesPlainBy d t plans None = PassesAll d t plans
PassesPlainBy d t plans (Some references) = PassesLean d t plans references

-- those of the accelerated machine
abbrev pub PassesFastBy : Design → Targets → Plans → (reference : Option Plans) → Margin → (s k : ℕ) → (exponents : List ℕ) → (f : ℕ) → Type 0
PassesFastBy d t plans None = PassesFastMargin d t plans
PassesFastBy d t plans (Some references) = PassesFast d t plans references

-- with some steps and exponents of the rows
abbrev pub PassesFastWith : Design → Targets → Plans → (reference : Option Plans) → Margin → (s f : ℕ) → Type 0
PassesFastWith d t plans reference m s f = (k : ℕ) × (exponents : List ℕ) × PassesFastBy d t plans reference m s k exponents f

-- why they are refused: as in `generate`, or with reference plans as in `lean`, by the machine
abbrev pub CauseOf : Design → Targets → Plans → (reference : Option Plans) → (fast : Bool) → (Refusal → Type 0)
CauseOf d t plans None false = HasCause d t plans
CauseOf d t plans None true = HasFastMarginCause d t plans
CauseOf d t plans (Some references) false = HasLeanCause d t plans references
CauseOf d t plans (Some references) true = HasFastCause d t plans references

-- they pass every test
abbrev pub PassesOf : Design → Targets → Plans → (reference : Option Plans) → (fast : Bool) → (Margin → (s f : ℕ) → Type 0)
PassesOf d t plans reference false = PassesPlainBy d t plans reference
PassesOf d t plans reference true = PassesFastWith d t plans reference

abbrev pub MakingCallsWith : Design → Targets → Plans → (reference : Option Plans) → (fast : Bool) → Status → Type 0
MakingCallsWith d t plans reference fast s = CallsFor (CauseOf d t plans reference fast) (PassesOf d t plans reference fast) s

-- the reference plans that were read
abbrev pub reference_of : Option Policy → Option Plans
reference_of = option_map plans_of

-- ---- what is made
-- the controller and its bounds are made leanly of them, and certified, and the bounds are within the targets
pub record IsLeanMadeOf (p : DesignParts) (plans references : Plans) (c : Numbers) (b : Printed) : Type 0 where
  pub built : IsLeanBuilt p plans references c b
  pub certified : IsCertified (design_of p) c b
  pub targets : IsWithinTargets (targets_of p) b

-- the same of the accelerated machine, leanly where there are reference plans
abbrev pub IsFastBuiltBy : DesignParts → Plans → (reference : Option Plans) → Numbers → Printed → Type 0
IsFastBuiltBy p plans None = IsFastMarginBuilt p plans
IsFastBuiltBy p plans (Some references) = IsFastBuilt p plans references

pub record IsFastMadeOf (p : DesignParts) (plans : Plans) (reference : Option Plans) (c : Numbers) (b : Printed) : Type 0 where
  pub built : IsFastBuiltBy p plans reference c b
  pub certified : IsFastCertified (design_of p) c b
  pub targets : IsWithinTargets (targets_of p) b

abbrev pub IsMadeByPlans : DesignParts → Plans → (reference : Option Plans) → (fast : Bool) → (Numbers → Printed → Type 0)
IsMadeByPlans p plans None false = IsMadeOf p plans
IsMadeByPlans p plans (Some references) false = IsLeanMadeOf p plans references
IsMadeByPlans p plans reference true = IsFastMadeOf p plans reference

-- its text, as the machine's texts are
abbrev pub IsTextBy : (fast : Bool) → (List ℕ → Numbers → Type 0)
IsTextBy false = IsControllerText
IsTextBy true = IsFastControllerText
