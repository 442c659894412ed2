use Rattle.cell_split.proofs.CountFacts.{Counted}
use Rattle.cell_split.proofs.cuts.count_cells.Given as goal

abbrev pub invariant-loop-i : goal.invariant-loop-i
invariant-loop-i l = Counted l.cuts l.cells l.i
