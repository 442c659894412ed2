-- The kinds of all files but designs and policies.
use Rattle.std.specs.Prelude.{ℕ}
use Rattle.qp_model.specs.problem.Design.{Design}
use Rattle.qp_model.specs.text.ControllerText.{IsControllerText}
use Rattle.controller_file.specs.FirstLine.{IsBadLine, IsUnsafe, IsAnyBadLine, IsAnyUnsafe}
use Rattle.cell_file.specs.Text.{IsBadCellsLine, AreUnsafe}
use Rattle.policy_file.specs.StatesText.{IsStatesFault}
use Rattle.stay_check.specs.FacesText.{IsFacesText, IsFacesTextFault}
use Rattle.cell_split.specs.CutsText.{IsCutsTextFault}
use Rattle.cell_split.specs.PoliciesText.{IsPoliciesFault}
use Rattle.state_files.specs.RangeText.{IsRangeFault}
use Rattle.state_files.specs.TurnText.{IsShiftsText, IsShiftsFault}
use Rattle.command_line.specs.Limit.{file_limit, cells_limit}
use Rattle.command_line.specs.Kind.{Kind, whole_kind}
use Rattle.command_design_files.specs.Reading.{text_kind}
use Rattle.command_files.specs.Texts.{StatesRight, AnyControllerRight, ControllersWrong, RangeRight, CutsRight, CellPoliciesRight, CellsRight}

abbrev pub controller_kind : Kind
controller_kind = whole_kind file_limit (λ c bytes. IsControllerText bytes c) (ControllersWrong IsBadLine IsUnsafe)

-- of any version
abbrev pub any_controller_kind : Kind
any_controller_kind = whole_kind file_limit AnyControllerRight (ControllersWrong IsAnyBadLine IsAnyUnsafe)

abbrev pub cells_kind : Kind
cells_kind = whole_kind cells_limit CellsRight (ControllersWrong IsBadCellsLine AreUnsafe)

abbrev pub states_kind : (n : ℕ) → Kind
states_kind n = text_kind (StatesRight n) (λ bytes fault. IsStatesFault bytes n fault)

abbrev pub faces_kind : Design → Kind
faces_kind d = text_kind (λ faces bytes. IsFacesText bytes d faces) (λ bytes fault. IsFacesTextFault bytes d fault)

abbrev pub range_kind : (n : ℕ) → Kind
range_kind n = text_kind (RangeRight n) (λ bytes fault. IsRangeFault bytes n fault)

-- of shifts of n coordinates after each of so many turns
abbrev pub shifts_kind : (n turns : ℕ) → Kind
shifts_kind n turns = text_kind (λ shifts bytes. IsShiftsText bytes n turns shifts) (λ bytes fault. IsShiftsFault bytes n turns fault)

abbrev pub cuts_kind : Design → Kind
cuts_kind d = text_kind (CutsRight d) (λ bytes fault. IsCutsTextFault bytes d fault)

abbrev pub cell_policies_kind : Design → (cells : ℕ) → Kind
cell_policies_kind d cells = text_kind (CellPoliciesRight d cells) (λ bytes fault. IsPoliciesFault bytes d cells fault)
