-- Which bytes are the text of what, of all files but designs and policies, and with which status others are refused.
use Rattle.std.specs.Prelude.{◌≡◌, ℕ, ℤ, List, Option}
use Rattle.mat_int.specs.Matrix.{Matrix}
use Rattle.qp_model.specs.problem.Design.{Design}
use Rattle.qp_model.specs.problem.Policy.{Plans}
use Rattle.controller_text.specs.declared.bad_controller.BadController.{BadController}
use Rattle.controller_text.specs.declared.bad_controller.BadController.TheVariants.{Line, Unsafe, Memory}
use Rattle.controller_file.specs.AnyText.{IsAnyControllerText}
use Rattle.controller_file.specs.declared.any_controller.AnyController.{AnyController}
use Rattle.policy_file.specs.StatesText.{IsStatesText}
use Rattle.cell_file.specs.Text.{IsCellsText}
use Rattle.cell_split.specs.CutsText.{IsCutsText}
use Rattle.cell_split.specs.PoliciesText.{ArePolicies}
use Rattle.state_files.specs.RangeText.{IsRangeText}
use Rattle.command_line.specs.declared.status.Status.{Status}
use Rattle.command_line.specs.declared.status.Status.TheVariants.{Controller}

-- ---- controllers, one or those of cells
-- a controller of any version
abbrev pub AnyControllerRight : AnyController → List ℕ → Type 0
AnyControllerRight k bytes = IsAnyControllerText bytes k

abbrev pub CellsRight : List AnyController → List ℕ → Type 0
CellsRight cells bytes = IsCellsText bytes cells

-- why bytes are no text of controllers: what says that a line is the first bad one, and what says that sums don't fit
abbrev pub IsFaultBy : (IsBad : List ℕ → ℕ → Type 0) (IsWide : List ℕ → Type 0) → List ℕ → BadController → Type 0
IsFaultBy IsBad IsWide bytes (Line l) = IsBad bytes l
IsFaultBy IsBad IsWide bytes Unsafe = IsWide bytes
IsFaultBy IsBad IsWide bytes Memory = ⊥

-- the bytes of the file at a position have a fault, and the status tells of it
abbrev pub ControllersWrong : (IsBad : List ℕ → ℕ → Type 0) (IsWide : List ℕ → Type 0) → ℕ → List ℕ → Status → Type 0
ControllersWrong IsBad IsWide file bytes s = (fault : BadController) × IsFaultBy IsBad IsWide bytes fault × (s ≡ Controller file fault)

-- ---- all others
-- states of n numbers each
abbrev pub StatesRight : ℕ → Matrix → List ℕ → Type 0
StatesRight n states bytes = IsStatesText bytes n states

-- a range of the shifts of n coordinates
abbrev pub RangeRight : ℕ → Matrix → List ℕ → Type 0
RangeRight n range bytes = IsRangeText bytes n range

-- cuts of a design's box
abbrev pub CutsRight : Design → List (List ℤ) → List ℕ → Type 0
CutsRight d cuts bytes = IsCutsText bytes d cuts

-- the policies of so many cells of a design's box, of some of them
abbrev pub CellPoliciesRight : Design → (cells : ℕ) → List (Option Plans) → List ℕ → Type 0
CellPoliciesRight d cells policies bytes = ArePolicies bytes d cells policies
