use Rattle.std.proofs.Common.{◌≡◌, ◌++◌, List, length}
use Rattle.integer_algebra.specs.Sums.{at}
use Rattle.qp_model.specs.machine.Controller.{Numbers}
use Rattle.text_lines.specs.Lines.{Keyed, views, line_in, small}
use Rattle.cell_file.specs.Cells.{AreCells}
use Rattle.cell_file.specs.Lines.{cells_lines}
use Rattle.cell_file.proofs.Places.{IsPlaceOf}
use Rattle.cell_file.proofs.place.place_after.Given as goal

abbrev pub invariant-loop : goal.invariant-loop
invariant-loop l = record {
  counted : l.place.cells ≡ l.counter;
  end : l.end ≡ small (at (line_in (views l.lines) 0) 0);
  place : (cells : List Numbers) (more : List Keyed) → AreCells cells → cells_lines cells ≡ views l.lines ++ more → IsPlaceOf cells (length (views l.lines)) l.place;
}
