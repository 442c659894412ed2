-- What a design with a policy calls for, and what is made of them.
use Rattle.std.specs.Prelude.{◌≡◌, ◌⊎◌, ℕ, List, Result, IfOk, IfErr}
use Rattle.qp_model.specs.problem.Policy.{Plans}
use Rattle.qp_model.specs.problem.Parts.{design_of}
use Rattle.qp_model.specs.machine.Controller.{Numbers}
use Rattle.qp_model.specs.bounds.Certified.{IsCertified}
use Rattle.qp_model.specs.text.ControllerText.{IsControllerText}
use Rattle.qp_model.specs.declared.design_parts.DesignParts.{DesignParts}
use Rattle.qp_model.specs.bounds.Printed.{Printed}
use Rattle.qp_model.specs.declared.bounds.Margin.{Margin}
use Rattle.bound_report.specs.Report.{report_text, report_json}
use Rattle.design_engine.specs.Targets.{targets_of, IsWithinTargets}
use Rattle.design_engine.specs.Built.{IsBuilt}
use Rattle.design_engine.specs.Refusals.{HasCause, PassesAll}
use Rattle.qp_model.specs.declared.refusal.Refusal.{Refusal}
use Rattle.command_line.specs.Status.{status_of}
use Rattle.command_line.specs.Words.{IsJson}
use Rattle.command_line.specs.declared.status.Status.{Status}
use Rattle.command_line.specs.declared.status.Status.TheVariants.{Done}
use Rattle.command_line.specs.Answers.{IsAnswer}
use Rattle.command_line.specs.TwoTexts.{IsUnmade}
use Rattle.command_line.specs.declared.two_texts.Texts.{Texts}

-- ---- the answer of a generator, by the causes of its refusals and by what passes all its tests
-- refused, by the first test that fails
pub record IsCausedRefusal (Cause : Refusal → Type 0) (s : Status) : Type 0 where
  pub refusal : Refusal
  pub cause : Cause refusal
  pub is : s ≡ status_of refusal

-- every test is passed, with a margin, a step exponent and fraction bits
pub record PassesWith (All : Margin → (s f : ℕ) → Type 0) : Type 0 where
  pub margin : Margin
  pub exponent : ℕ
  pub bits : ℕ
  pub all : All margin exponent bits

-- the one or the other is called for
abbrev pub CallsFor : (Cause : Refusal → Type 0) → (All : Margin → (s f : ℕ) → Type 0) → Status → Type 0
CallsFor Cause All s = IsCausedRefusal Cause s ⊎ ((s ≡ Done) × PassesWith All)

-- what a design with a policy calls for
abbrev pub MakingCalls : DesignParts → Plans → Status → Type 0
MakingCalls p plans s = CallsFor (HasCause (design_of p) (targets_of p) plans) (PassesAll (design_of p) (targets_of p) plans) s

-- what was made is such, and `Done` is called for and nothing else; or the status tells why nothing was
pub record Makes {T : Type 0} (Calls : Status → Type 0) (Right : T → Type 0) (r : Result T Status) : Type 0 where
  pub made : IfOk r Right
  pub called : IfOk r (λ t. IsAnswer Calls Done)
  pub unmade : IfErr r (IsUnmade Calls)

-- ---- what is made
-- the controller and its bounds are built of the design and the policy, and certified, and the bounds are within the targets
pub record IsMadeOf (p : DesignParts) (plans : Plans) (c : Numbers) (b : Printed) : Type 0 where
  pub built : IsBuilt p plans c b
  pub certified : IsCertified (design_of p) c b
  pub targets : IsWithinTargets (targets_of p) b

-- the report of the bounds, in the form that its name asks for
pub record IsReport (name : List ℕ) (b : Printed) (report : List ℕ) : Type 0 where
  pub json : IsJson name → report ≡ report_json b
  pub text : ¬ IsJson name → report ≡ report_text b

-- the text of a controller, as this says of its machine, and the report of its bounds, which are made so
pub record AreTextsBy (IsText : List ℕ → Numbers → Type 0) (Made : Numbers → Printed → Type 0) (report_name text report : List ℕ) : Type 0 where
  pub controller : Numbers
  pub bounds : Printed
  pub made : Made controller bounds
  pub is_text : IsText text controller
  pub is_report : IsReport report_name bounds report

-- of version 1 or 2
abbrev pub AreTextsOf : (Made : Numbers → Printed → Type 0) (report_name text report : List ℕ) → Type 0
AreTextsOf = AreTextsBy IsControllerText

-- both texts of what is made so, where that is called for; or the status that tells why there are none
abbrev pub MakesTexts : (IsText : List ℕ → Numbers → Type 0) → (Calls : Status → Type 0) → (Made : Numbers → Printed → Type 0) → (report_name : List ℕ) → Result Texts Status → Type 0
MakesTexts IsText Calls Made report_name r = Makes Calls (λ t. AreTextsBy IsText Made report_name t.first.items t.second.items) r
