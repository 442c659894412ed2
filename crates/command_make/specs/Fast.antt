-- What `generate`, `stay` and `lean` leave in the store of a design that asks for the accelerated machine.
use Rattle.std.specs.Prelude.{◌⊎◌, ℕ, Bool, true, List, Option, Some, None}
use Rattle.io_edge.specs.Faults.{Files}
use Rattle.qp_model.specs.problem.Policy.{Plans}
use Rattle.qp_model.specs.problem.Parts.{design_of}
use Rattle.qp_model.specs.machine.Controller.{Numbers}
use Rattle.qp_model.specs.declared.design_parts.DesignParts.{DesignParts}
use Rattle.qp_model.specs.bounds.Printed.{Printed}
use Rattle.controller_text.specs.TextForm.{IsFastControllerText}
use Rattle.command_line.specs.Words.{word_of}
use Rattle.command_line.specs.Limit.{file_limit}
use Rattle.command_line.specs.Answers.{FileHolds}
use Rattle.command_design_files.specs.Texts.{AskedRight, PolicyRight}
use Rattle.command_generate.specs.Generate.{IsGenerated, AreMadeAndWrittenBy}
use Rattle.command_make.specs.Made.{IsFastMadeOf}
use Rattle.command_make.specs.Lean.{IsLeanWritten, IsLeanStayed}
use Rattle.command_make.specs.Stay.{FastLoopsStay, IsStayed}

-- two files hold a design of version 3 and a policy for it
pub record HoldsFastInputs (design policy : Option (List ℕ)) (p : DesignParts) (plans : Plans) : Type 0 where
  pub design_right : FileHolds file_limit (AskedRight (record { design = p; fast = true })) design
  pub policy_right : FileHolds file_limit (PolicyRight (design_of p) plans) policy

-- ---- what `generate` and `stay` write
-- they are made of the design of version 3 and the policy in the files
pub record IsFastGeneratedFrom (design policy : Option (List ℕ)) (c : Numbers) (b : Printed) : Type 0 where
  pub p : DesignParts
  pub plans : Plans
  pub inputs : HoldsFastInputs design policy p plans
  pub made : IsFastMadeOf p plans None c b

-- The third name holds the text of a controller of the accelerated machine, and the fourth the report of its bounds, made of the design and the policy that the
-- first two names held.
abbrev pub IsFastGenerated : (words : List (List ℕ)) → (files new : Files) → Type 0
IsFastGenerated words files new =
    AreMadeAndWrittenBy IsFastControllerText (IsFastGeneratedFrom (files (word_of words 1)) (files (word_of words 2))) 3 4 words files new

-- And with faces its closed loop stays in the box, by the machine of its controller.
pub record IsFastGeneratedStayed (disturbed : Bool) (words : List (List ℕ)) (files new : Files) : Type 0 where
  pub generated : IsFastGenerated words files new
  pub loops : FastLoopsStay disturbed 6 words files generated.made.p generated.controller generated.bounds

-- by the version of the design in the first file
abbrev pub IsAnyGenerated : (words : List (List ℕ)) → (files new : Files) → Type 0
IsAnyGenerated words files new = IsGenerated words files new ⊎ IsFastGenerated words files new

abbrev pub IsAnyGeneratedStayed : (disturbed : Bool) → (words : List (List ℕ)) → (files new : Files) → Type 0
IsAnyGeneratedStayed disturbed words files new = IsStayed disturbed words files new ⊎ IsFastGeneratedStayed disturbed words files new

-- ---- what `lean` writes
-- they are made of the design of version 3, the policy and the reference plans in the files
pub record IsFastMadeFrom (design policy reference : Option (List ℕ)) (c : Numbers) (b : Printed) : Type 0 where
  pub p : DesignParts
  pub plans : Plans
  pub references : Plans
  pub inputs : HoldsFastInputs design policy p plans
  pub reference_right : FileHolds file_limit (PolicyRight (design_of p) references) reference
  pub made : IsFastMadeOf p plans (Some references) c b

-- The fourth name holds the text of a controller of the accelerated machine, and the fifth the report of its bounds, made of the design, the policy and the
-- reference plans that the first three names held.
abbrev pub IsFastWritten : (words : List (List ℕ)) → (files new : Files) → Type 0
IsFastWritten words files new =
    AreMadeAndWrittenBy IsFastControllerText (IsFastMadeFrom (files (word_of words 1)) (files (word_of words 2)) (files (word_of words 3))) 4 5 words files new

-- And with faces its closed loop stays in the box, by the machine of its controller.
pub record IsFastStayed (disturbed : Bool) (words : List (List ℕ)) (files new : Files) : Type 0 where
  pub written : IsFastWritten words files new
  pub loops : FastLoopsStay disturbed 7 words files written.made.p written.controller written.bounds

abbrev pub IsAnyWritten : (words : List (List ℕ)) → (files new : Files) → Type 0
IsAnyWritten words files new = IsLeanWritten words files new ⊎ IsFastWritten words files new

abbrev pub IsAnyStayed : (disturbed : Bool) → (words : List (List ℕ)) → (files new : Files) → Type 0
IsAnyStayed disturbed words files new = IsLeanStayed disturbed words files new ⊎ IsFastStayed disturbed words files new
