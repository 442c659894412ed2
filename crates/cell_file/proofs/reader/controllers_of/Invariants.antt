use Rattle.std.proofs.Common.{◌≡◌}
use Rattle.std.specs.Prelude.{All}
use Rattle.integer_algebra.specs.Sums.{at}
use Rattle.controller_file.specs.AnyText.{IsSafe}
use Rattle.text_lines.specs.Lines.{views, line_in, small}
use Rattle.cell_file.proofs.Reading.{AreReadTo}
use Rattle.cell_file.proofs.reader.controllers_of.Given as goal

abbrev pub invariant-loop : goal.invariant-loop
invariant-loop l = record {
  end : l.end ≡ small (at (line_in (views l.lines) 0) 0);
  safe : All IsSafe l.cells.items;
  read : AreReadTo l.lines l.cells.items l.counter l.start;
}
