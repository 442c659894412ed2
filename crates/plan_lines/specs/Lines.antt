-- The lines of states, and those of averaged plans.
use Rattle.std.specs.Prelude.{◌≡◌, ℕ, zero, suc, ℤ, List, [], ◌++◌, take}
use Rattle.std.specs.List.{flat_map}
use Rattle.mat_int.specs.Matrix.{Matrix, row_of}
use Rattle.qp_model.specs.machine.Controller.{Numbers}
use Rattle.qp_model.specs.text.ControllerText.{plan_line}
use Rattle.primal_average.specs.FastLine.{fast_plan_line}
use Rattle.controller_file.specs.declared.any_controller.AnyController.{AnyController}
use Rattle.controller_file.specs.declared.any_controller.AnyController.TheVariants.{Plain, Fast}

-- the line of the averaged plan of a controller of either machine from a state
abbrev pub any_plan_line : AnyController → List ℤ → List ℕ
any_plan_line (Plain c) = plan_line c
any_plan_line (Fast c) = fast_plan_line c

-- the lines of the first k states, in order, by what the line of each is
abbrev pub first_lines : (line : List ℤ → List ℕ) → Matrix → ℕ → List ℕ
first_lines line states k = flat_map line (take k states.rows)

-- those of the averaged plans
abbrev pub plan_lines : Numbers → Matrix → ℕ → List ℕ
plan_lines c = first_lines (plan_line c)

-- the text is the lines of the first states, in order: those of one fewer, and the line of the last
pub record IsOneMore (AreBefore : List ℕ → Type 0) (IsLine : List ℕ → Type 0) (text : List ℕ) : Type 0 where
  pub before : List ℕ
  pub line : List ℕ
  pub those : AreBefore before
  pub last : IsLine line
  pub is : text ≡ before ++ line

abbrev pub AreLinesOf : (IsLine : List ℤ → List ℕ → Type 0) → Matrix → (n : ℕ) → List ℕ → Type 0
AreLinesOf IsLine states zero text = text ≡ []
AreLinesOf IsLine states (suc n) text = IsOneMore (AreLinesOf IsLine states n) (IsLine (row_of states n)) text
