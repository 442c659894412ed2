use Rattle.std.proofs.Common.{◌≡◌, ◌++◌, ◌<◌, ℕ, take, get_or}
use Rattle.std.specs.List.{flat_map}
use Rattle.qp_model.specs.machine.Controller.{FitsWord}
use Rattle.qp_model.specs.text.ControllerText.{controller_text}
use Rattle.controller_file.specs.AnyText.{any_numbers, IsSafe}
use Rattle.controller_file.specs.declared.any_controller.AnyController.{AnyController}
use Rattle.cell_file.proofs.writer.push_cells.Given as goal

abbrev pub invariant-loop-cell : goal.invariant-loop-cell
invariant-loop-cell l = record {
  text : l.bytes.items ≡ l.fn.bytes.items ++ flat_map (λ k. controller_text (any_numbers k)) (take l.cell-index l.cells);
  safe : (k : ℕ) (d : AnyController) → k < l.cell-index → IsSafe (get_or l.cells k d);
  word : (k : ℕ) (d : AnyController) → k < l.cell-index → FitsWord (any_numbers (get_or l.cells k d));
}
