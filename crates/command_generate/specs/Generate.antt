-- What `generate` does with what its first two files hold, of designs of versions 1 and 2, and what it leaves in the store.
use Rattle.std.specs.Prelude.{◌≡◌, ◌≢◌, ℕ, ◌≤◌, List, length, Option, Some}
use Rattle.io_edge.specs.Faults.{Files}
use Rattle.qp_model.specs.problem.Policy.{Plans}
use Rattle.qp_model.specs.problem.Parts.{design_of}
use Rattle.qp_model.specs.machine.Controller.{Numbers}
use Rattle.qp_model.specs.bounds.Certified.{IsCertified}
use Rattle.qp_model.specs.text.ControllerText.{IsControllerText}
use Rattle.qp_model.specs.declared.design_parts.DesignParts.{DesignParts}
use Rattle.qp_model.specs.bounds.Printed.{Printed}
use Rattle.design_engine.specs.Targets.{targets_of, IsWithinTargets}
use Rattle.design_engine.specs.Built.{IsBuilt}
use Rattle.command_line.specs.Words.{word_of}
use Rattle.command_line.specs.Limit.{file_limit}
use Rattle.command_line.specs.Answers.{FileHolds}
use Rattle.command_line.specs.Deeds.{Deeds}
use Rattle.command_line.specs.Script.{Act, Script, ends, reads, Work, deeds_of_work}
use Rattle.command_line.specs.TwoTexts.{two_texts, two_work}
use Rattle.command_design_files.specs.Texts.{DesignRight, PolicyRight}
use Rattle.command_design_files.specs.Reading.{design_kind, policy_kind}
use Rattle.command_generate.specs.Made.{MakingCalls, IsMadeOf, IsReport, AreTextsOf}

-- ---- what it does: it reads a design and a policy for it, and writes the texts of what is made of them
abbrev pub generate_act : DesignParts → Plans → Act
generate_act p plans = two_texts (MakingCalls p plans) (λ words. AreTextsOf (IsMadeOf p plans) (word_of words 4)) 3 4

abbrev pub generate_after : DesignParts → Script
generate_after p = reads 2 (policy_kind (design_of p)) (λ plans. ends (generate_act p plans))

abbrev pub plain_work : Work
plain_work = two_work (reads 1 design_kind generate_after) 3 4

-- its row, where it stands alone
abbrev pub plain_deeds : Deeds
plain_deeds = deeds_of_work plain_work

-- ---- what is written
-- two files hold a design and a policy for it
pub record HoldsInputs (design policy : Option (List ℕ)) (p : DesignParts) (plans : Plans) : Type 0 where
  pub design_right : FileHolds file_limit (DesignRight p) design
  pub policy_right : FileHolds file_limit (PolicyRight (design_of p) plans) policy

-- the controller and its bounds are built of the design and the policy in the files, and certified, and the bounds are within the targets
pub record IsMadeFrom (design policy : Option (List ℕ)) (c : Numbers) (b : Printed) : Type 0 where
  pub p : DesignParts
  pub plans : Plans
  pub inputs : HoldsInputs design policy p plans
  pub built : IsBuilt p plans c b
  pub certified : IsCertified (design_of p) c b
  pub targets : IsWithinTargets (targets_of p) b

-- The name at the first of these positions holds the text of a controller, as this says of its machine, no longer than a file may be, and that at the second the
-- report of its bounds; every other name holds what it held. They are made so.
pub record AreMadeAndWrittenBy (IsText : List ℕ → Numbers → Type 0) (Made : Numbers → Printed → Type 0) (first second : ℕ) (words : List (List ℕ)) (files new : Files) : Type 0 where
  pub controller : Numbers
  pub bounds : Printed
  pub made : Made controller bounds
  pub text : List ℕ
  pub is_text : IsText text controller
  pub short : length text ≤ file_limit
  pub report : List ℕ
  pub is_report : IsReport (word_of words second) bounds report
  pub controller_file : new (word_of words first) ≡ Some text
  pub report_file : new (word_of words second) ≡ Some report
  pub others : (q : List ℕ) → q ≢ word_of words first → q ≢ word_of words second → new q ≡ files q

-- of version 1 or 2
abbrev pub AreMadeAndWritten : (Made : Numbers → Printed → Type 0) (first second : ℕ) (words : List (List ℕ)) (files new : Files) → Type 0
AreMadeAndWritten = AreMadeAndWrittenBy IsControllerText

-- The third name holds the text of a controller, and the fourth the report of its bounds, made of the design and the policy that the first two names held.
abbrev pub IsGenerated : (words : List (List ℕ)) → (files new : Files) → Type 0
IsGenerated words files new = AreMadeAndWritten (IsMadeFrom (files (word_of words 1)) (files (word_of words 2))) 3 4 words files new
