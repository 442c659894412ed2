use Rattle.std.proofs.Common.{◌-◌}
use Rattle.cell_split.proofs.CellFacts.{PartsUpTo}
use Rattle.cell_split.proofs.cell.parts_of.Given as goal

abbrev pub invariant-loop-i : goal.invariant-loop-i
invariant-loop-i l = PartsUpTo l.cuts (l.cell - 1) l.rest l.parts.items l.i
