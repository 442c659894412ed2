-- What `lean` leaves in the store, without faces and with them.
use Rattle.std.specs.Prelude.{ℕ, Bool, List, Option}
use Rattle.io_edge.specs.Faults.{Files}
use Rattle.qp_model.specs.problem.Policy.{Plans}
use Rattle.qp_model.specs.problem.Parts.{design_of}
use Rattle.qp_model.specs.machine.Controller.{Numbers}
use Rattle.qp_model.specs.declared.design_parts.DesignParts.{DesignParts}
use Rattle.qp_model.specs.bounds.Printed.{Printed}
use Rattle.command_line.specs.Words.{word_of}
use Rattle.command_line.specs.Limit.{file_limit}
use Rattle.command_line.specs.Answers.{FileHolds}
use Rattle.command_design_files.specs.Texts.{PolicyRight}
use Rattle.command_generate.specs.Generate.{HoldsInputs, AreMadeAndWritten}
use Rattle.command_make.specs.Made.{IsLeanMadeOf}
use Rattle.command_make.specs.Stay.{LoopsStay}

-- the controller and its bounds are made leanly of the design, the policy and the reference plans in the files, and certified, and the bounds are within the
-- targets; reference plans are a text as a policy is
pub record IsLeanMadeFrom (design policy reference : Option (List ℕ)) (c : Numbers) (b : Printed) : Type 0 where
  pub p : DesignParts
  pub plans : Plans
  pub references : Plans
  pub inputs : HoldsInputs design policy p plans
  pub reference_right : FileHolds file_limit (PolicyRight (design_of p) references) reference
  pub made : IsLeanMadeOf p plans references c b

-- of what the names hold
abbrev pub IsMadeOfFiles : (words : List (List ℕ)) → Files → Numbers → Printed → Type 0
IsMadeOfFiles words files c b = IsLeanMadeFrom (files (word_of words 1)) (files (word_of words 2)) (files (word_of words 3)) c b

-- The fourth name holds the text of a controller, and the fifth the report of its bounds, made of the design, the policy and the reference plans that the first
-- three names held.
abbrev pub IsLeanWritten : (words : List (List ℕ)) → (files new : Files) → Type 0
IsLeanWritten words files new = AreMadeAndWritten (IsMadeOfFiles words files) 4 5 words files new

-- And with faces its closed loop stays in the box, as that of `stay`.
pub record IsLeanStayed (disturbed : Bool) (words : List (List ℕ)) (files new : Files) : Type 0 where
  pub written : IsLeanWritten words files new
  pub loops : LoopsStay disturbed 7 words files written.made.p written.controller written.bounds
