-- The lines of states, each by the first cell whose box holds it.
use Rattle.std.specs.Prelude.{◌≡◌, ℕ, ℤ, List, get_or}
use Rattle.mat_int.specs.Matrix.{Matrix}
use Rattle.plan_lines.specs.ControllerFile.declared.any_controller.AnyController.{AnyController}
use Rattle.cell_file.specs.Finding.{IsFirstHolding}
use Rattle.plan_lines.specs.Lines.{any_plan_line, AreLinesOf}

-- the line of a state: that of the averaged plan of the first cell whose box holds it, as `solve` prints it of that controller
pub record IsServedLine (cells : List AnyController) (xi : List ℤ) (line : List ℕ) : Type 0 where
  pub cell : ℕ
  pub first : IsFirstHolding cells xi cell
  pub is : (c : AnyController) → line ≡ any_plan_line (get_or cells cell c) xi

-- the text is the lines of the first states, in order
abbrev pub AreServedLines : List AnyController → Matrix → (n : ℕ) → List ℕ → Type 0
AreServedLines cells states n text = AreLinesOf (IsServedLine cells) states n text
