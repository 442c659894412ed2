-- The script of `solve`, and what it prints.
use Rattle.std.proofs.Common.{inl, refl, arith}
use Rattle.io_edge.specs.declared.sink.Sink.{Ghosts as Screen}
use Rattle.mat_int.specs.Matrix.{Matrix}
use Rattle.plan_lines.specs.ControllerFile.AnyText.{any_numbers}
use Rattle.plan_lines.specs.ControllerFile.declared.any_controller.AnyController.{AnyController}
use Rattle.command_line.specs.Script.{ends}
use Rattle.command_line.specs.Does.{Prints}
use Rattle.command_line.proofs.Gathering.{whole}
use Rattle.command_line.proofs.Following.{IsSoundWork}
use Rattle.command_line.specs.declared.status.Status.{Status}
use Rattle.command_design_files.proofs.Stopping.{text_refused}
use Rattle.command_files.proofs.Stopping.{controllers_refused}
use Rattle.plan_lines.specs.Lines.{any_plan_line}
use Rattle.plan_lines.specs.Making.{making_of_any, PrintsRecords}
use Rattle.plan_lines.specs.Printing.{lines_by}
use Rattle.plan_lines.proofs.Acting.{lines_told, lines_telling, records_ended}
use Rattle.plan_lines.proofs.PlanLines.{lines_as}
use Rattle.command_solve.specs.Solve.{solve_act, solve_states}
use Rattle.command_solve.specs.Deeds.{solve_work, solve_deeds}

pub solve_sound : IsSoundWork solve_work
solve_sound = record {
  sound = (omega arith, controllers_refused 1, whole solve_states, λ c. (omega arith, text_refused 2, whole (λ m. ends (solve_act c m)), λ m. lines_telling));
  first = inl refl;
}

pub solve_ended : (k : AnyController) (m : Matrix) {O : Type 0} (screen : Screen O) (out now : O) (s : Status) → PrintsRecords screen (making_of_any k) m out now s →
    Prints screen solve_deeds out now s (solve_act k m)
solve_ended k m screen =
    let line = any_plan_line k in
    records_ended solve_deeds (lines_told (making_of_any k) m (lines_by line m) (lines_as (any_numbers k) line m) solve_deeds.tells) screen
