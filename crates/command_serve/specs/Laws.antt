-- What is said of the lines of states.
use Rattle.std.specs.Prelude.{◌≡◌, ℕ, ◌<◌, ℤ, List, length, get_or}
use Rattle.mat_int.specs.Matrix.{Matrix}
use Rattle.qp_model.specs.machine.Machine.{IsAdmissible}
use Rattle.plan_lines.specs.ControllerFile.AnyText.{any_numbers}
use Rattle.plan_lines.specs.ControllerFile.declared.any_controller.AnyController.{AnyController}
use Rattle.plan_lines.specs.Lines.{any_plan_line}
use Rattle.command_serve.specs.Lines.{IsServedLine, AreServedLines}

-- this cell's box holds the state, and no other's does
pub record IsHeldAlone (cells : List AnyController) (xi : List ℤ) (k : ℕ) : Type 0 where
  pub there : k < length cells
  pub here : (c : AnyController) → IsAdmissible (any_numbers (get_or cells k c)) xi
  pub alone : (i : ℕ) (c : AnyController) → i < length cells → IsAdmissible (any_numbers (get_or cells i c)) xi → i ≡ k

-- of a state that one cell alone holds, the line is that of this cell's averaged plan, and no other
pub record HasOneCell (cells : List AnyController) (xi : List ℤ) (k : ℕ) : Type 0 where
  pub line : (c : AnyController) → IsServedLine cells xi (any_plan_line (get_or cells k c) xi)
  pub only : (c : AnyController) (line : List ℕ) → IsServedLine cells xi line → line ≡ any_plan_line (get_or cells k c) xi

abbrev pub OneCellLaw : Type 0
OneCellLaw = (cells : List AnyController) (xi : List ℤ) (k : ℕ) → IsHeldAlone cells xi k → HasOneCell cells xi k

-- the lines of states are one text
abbrev pub OneTextLaw : Type 0
OneTextLaw = (cells : List AnyController) (states : Matrix) (n : ℕ) (text other : List ℕ) → AreServedLines cells states n text → AreServedLines cells states n other → text ≡ other
