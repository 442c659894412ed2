-- What `solve` does with its two files.
use Rattle.std.specs.Prelude.{ℕ, List, length, Option}
use Rattle.mat_int.specs.Matrix.{Matrix, row_of}
use Rattle.qp_model.specs.machine.Machine.{IsAdmissible}
use Rattle.plan_lines.specs.ControllerFile.AnyText.{any_numbers}
use Rattle.plan_lines.specs.ControllerFile.declared.any_controller.AnyController.{AnyController}
use Rattle.fixed_kernel.specs.Outside.{IsFirstOutside}
use Rattle.command_line.specs.Limit.{file_limit}
use Rattle.command_line.specs.Answers.{FileHolds}
use Rattle.command_line.specs.Script.{Act, Script, ends, reads}
use Rattle.command_files.specs.Texts.{AnyControllerRight, StatesRight}
use Rattle.command_files.specs.Reading.{any_controller_kind, states_kind}
use Rattle.plan_lines.specs.Inside.{AreInside}
use Rattle.plan_lines.specs.Lines.{any_plan_line}
use Rattle.plan_lines.specs.Printing.{lines_by, lines_act}

-- two files hold a controller and states that all lie in its box
pub record HoldsRuns (controller states : Option (List ℕ)) (k : AnyController) (m : Matrix) : Type 0 where
  pub controller_right : FileHolds file_limit (AnyControllerRight k) controller
  pub states_right : FileHolds file_limit (StatesRight (any_numbers k).states m) states
  pub inside : AreInside (any_numbers k) m (length m.rows)

-- the first state outside the box is told, or the lines of the averaged plans are printed
abbrev pub solve_act : AnyController → Matrix → Act
solve_act k m = lines_act (λ e. IsAdmissible (any_numbers k) (row_of m e)) (λ e. IsFirstOutside (any_numbers k) (row_of m e)) m (lines_by (any_plan_line k) m)

abbrev pub solve_states : AnyController → Script
solve_states k = reads 2 (states_kind (any_numbers k).states) (λ m. ends (solve_act k m))

abbrev pub solve_script : Script
solve_script = reads 1 any_controller_kind solve_states
