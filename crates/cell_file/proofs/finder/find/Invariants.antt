use Rattle.cell_file.specs.Finding.{NoneHolds}
use Rattle.cell_file.proofs.finder.find.Given as goal

abbrev pub invariant-loop-i : goal.invariant-loop-i
invariant-loop-i l = NoneHolds l.cells l.state l.i
