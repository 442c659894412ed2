-- What `serve` does with its two files.
use Rattle.std.specs.Prelude.{ℕ, List, length, Option}
use Rattle.mat_int.specs.Matrix.{Matrix, row_of}
use Rattle.plan_lines.specs.ControllerFile.declared.any_controller.AnyController.{AnyController}
use Rattle.command_line.specs.Limit.{file_limit, cells_limit}
use Rattle.command_line.specs.Answers.{FileHolds}
use Rattle.command_line.specs.Script.{Act, Script, ends, reads}
use Rattle.command_files.specs.Texts.{StatesRight, CellsRight}
use Rattle.command_files.specs.Reading.{cells_kind, states_kind}
use Rattle.plan_lines.specs.Printing.{lines_act}
use Rattle.command_serve.specs.Served.{cell_states, IsHeldBySome, AreServed}
use Rattle.command_serve.specs.Unserved.{IsHeldByNone}
use Rattle.command_serve.specs.Printing.{served_lines}

-- two files hold cells and states, each of which some cell's box holds
pub record HoldsServed (cells states : Option (List ℕ)) (cs : List AnyController) (m : Matrix) : Type 0 where
  pub cells_right : FileHolds cells_limit (CellsRight cs) cells
  pub states_right : FileHolds file_limit (StatesRight (cell_states cs) m) states
  pub served : AreServed cs m (length m.rows)

-- the first state that no cell's box holds is told, or the lines of all are printed
abbrev pub serve_act : List AnyController → Matrix → Act
serve_act cells m = lines_act (λ e. IsHeldBySome cells (row_of m e)) (λ e. IsHeldByNone cells (row_of m e)) m (served_lines cells m)

abbrev pub serve_states : List AnyController → Script
serve_states cells = reads 2 (states_kind (cell_states cells)) (λ m. ends (serve_act cells m))

abbrev pub serve_script : Script
serve_script = reads 1 cells_kind serve_states
