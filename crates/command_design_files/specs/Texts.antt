-- Which bytes are the text of what, and with which status others are refused.
use Rattle.std.specs.Prelude.{◌≡◌, ◌≢◌, ◌⊎◌, ℕ, List, Result, Ok, Err, IsErrAnd, true}
use Rattle.qp_model.specs.problem.Design.{Design}
use Rattle.qp_model.specs.problem.Policy.{Plans}
use Rattle.qp_model.specs.declared.design_parts.DesignParts.{DesignParts}
use Rattle.number_text.specs.declared.text_fault.TextFault.{TextFault}
use Rattle.number_text.specs.declared.text_fault.TextFault.TheVariants.{Memory as no_memory}
use Rattle.controller_text.specs.declared.bad_controller.BadController.{BadController}
use Rattle.controller_text.specs.declared.bad_controller.BadController.TheVariants.{Memory as no_room}
use Rattle.design_files.specs.DesignText.{IsDesignText}
use Rattle.design_files.specs.AskedText.{IsAskedText}
use Rattle.design_files.specs.declared.places.Asked.{Asked}
use Rattle.policy_file.specs.PolicyText.{IsPolicyText}
use Rattle.command_line.specs.declared.status.Status.{Status}
use Rattle.command_line.specs.declared.status.Status.TheVariants.{Memory, Text, Controller}

-- ---- faults
-- the status tells of a text's first fault, which is never that memory ran out, in the file at a position
abbrev pub TellsFault : ℕ → TextFault → Status → Type 0
TellsFault file fault s = (fault ≢ no_memory) × (s ≡ Text file fault)

-- the bytes of the file at a position have a first fault, and the status tells of it
abbrev pub TextWrong : (Fault : List ℕ → TextFault → Type 0) → ℕ → List ℕ → Status → Type 0
TextWrong Fault file bytes s = (fault : TextFault) × Fault bytes fault × TellsFault file fault s

-- ---- what a reader answers
-- out of memory where that is the fault, and else what tells of it
abbrev pub TellsBy : {F : Type 0} → (none : F) (tell : F → Status) → F → Status → Type 0
TellsBy none tell fault s = ((s ≡ Memory) × (fault ≡ none)) ⊎ ((s ≡ tell fault) × (fault ≢ none))

abbrev pub TellsText : ℕ → TextFault → Status → Type 0
TellsText file = TellsBy no_memory (Text file)

abbrev pub TellsController : ℕ → BadController → Status → Type 0
TellsController file = TellsBy no_room (Controller file)

-- what was read, or the status of its fault
abbrev pub IsToldBy : {X F : Type 0} → (Tells : F → Status → Type 0) → Result X F → Result X Status → Type 0
IsToldBy Tells (Ok x) r = r ≡ Ok x
IsToldBy Tells (Err fault) r = IsErrAnd r (Tells fault)

-- ---- designs, and policies for a design
abbrev pub DesignRight : DesignParts → List ℕ → Type 0
DesignRight p bytes = IsDesignText bytes p

-- of any version, with the machine that it asks for
abbrev pub AskedRight : Asked → List ℕ → Type 0
AskedRight asked bytes = IsAskedText true bytes asked

abbrev pub PolicyRight : Design → Plans → List ℕ → Type 0
PolicyRight d plans bytes = IsPolicyText bytes d plans
