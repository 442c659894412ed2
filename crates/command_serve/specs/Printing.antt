-- What the output gets of the lines of states.
use Rattle.std.specs.Prelude.{◌≡◌, ℕ, ◌≤◌, List, ◌++◌, length}
use Rattle.io_edge.specs.Faults.{GrowsByPart}
use Rattle.mat_int.specs.Matrix.{Matrix}
use Rattle.plan_lines.specs.ControllerFile.declared.any_controller.AnyController.{AnyController}
use Rattle.command_line.specs.declared.status.Status.{Status}
use Rattle.plan_lines.specs.Printing.{Lines, AreLinesPrinted}
use Rattle.command_serve.specs.Lines.{AreServedLines}

-- the output grew by the lines of all states
pub record AddsAllLines (cells : List AnyController) (states : Matrix) (old new : List ℕ) : Type 0 where
  pub text : List ℕ
  pub lines : AreServedLines cells states (length states.rows) text
  pub printed : new ≡ old ++ text

-- by a part of them that isn't all
pub record AddsPartOfLines (cells : List AnyController) (states : Matrix) (old new : List ℕ) : Type 0 where
  pub text : List ℕ
  pub lines : AreServedLines cells states (length states.rows) text
  pub printed : GrowsByPart old new text

-- by the lines of some first states
pub record AddsSomeLines (cells : List AnyController) (states : Matrix) (old new : List ℕ) : Type 0 where
  pub count : ℕ
  pub some : count ≤ length states.rows
  pub text : List ℕ
  pub lines : AreServedLines cells states count text
  pub printed : new ≡ old ++ text

-- by the answer: all lines, a part of them that isn't all, or those of some first states
abbrev pub served_lines : List AnyController → Matrix → Lines
served_lines cells states = record { all = AddsAllLines cells states; part = AddsPartOfLines cells states; some = AddsSomeLines cells states }

abbrev pub AreServedPrinted : List AnyController → Matrix → Status → (old new : List ℕ) → Type 0
AreServedPrinted cells states s old new = AreLinesPrinted (served_lines cells states) s old new
