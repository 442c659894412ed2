-- The script of `serve`, and what it prints.
use Rattle.std.proofs.Common.{List, inl, refl, arith}
use Rattle.io_edge.specs.declared.sink.Sink.{Ghosts as Screen}
use Rattle.mat_int.specs.Matrix.{Matrix}
use Rattle.plan_lines.specs.ControllerFile.declared.any_controller.AnyController.{AnyController}
use Rattle.command_line.specs.Script.{ends}
use Rattle.command_line.specs.Does.{Prints}
use Rattle.command_line.proofs.Gathering.{whole}
use Rattle.command_line.proofs.Following.{IsSoundWork}
use Rattle.command_line.specs.declared.status.Status.{Status}
use Rattle.command_design_files.proofs.Stopping.{text_refused}
use Rattle.command_files.proofs.Stopping.{controllers_refused}
use Rattle.plan_lines.specs.Making.{PrintsRecords}
use Rattle.plan_lines.proofs.Acting.{lines_told, lines_telling, records_ended}
use Rattle.command_serve.specs.Making.{making_of_cells}
use Rattle.command_serve.specs.Printing.{served_lines}
use Rattle.command_serve.specs.Serve.{serve_act, serve_states}
use Rattle.command_serve.specs.Deeds.{serve_work, serve_deeds}
use Rattle.command_serve.proofs.ServedLines.{served_as}

pub serve_sound : IsSoundWork serve_work
serve_sound = record {
  sound = (
    omega arith,
    controllers_refused 1,
    whole serve_states,
    λ cells. (omega arith, text_refused 2, whole (λ m. ends (serve_act cells m)), λ m. lines_telling),
  );
  first = inl refl;
}

-- of cells of which there is one
pub serve_ended : (c : AnyController) (cells : List AnyController) (m : Matrix) {O : Type 0} (screen : Screen O) (out now : O) (s : Status) → PrintsRecords screen (making_of_cells cells) m out now s → Prints screen serve_deeds out now s (serve_act cells m)
serve_ended c cells m screen = records_ended serve_deeds (lines_told (making_of_cells cells) m (served_lines cells m) (served_as c cells m) serve_deeds.tells) screen
