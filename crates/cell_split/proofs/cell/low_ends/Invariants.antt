use Rattle.std.proofs.Common.{slice_index_or}
use Rattle.integer_algebra.specs.Sums.{at}
use Rattle.mat_int.specs.Lines.{lists}
use Rattle.qp_model.specs.problem.Runs.{Holds}
use Rattle.cell_split.specs.Cuts.{part_low}
use Rattle.cell_split.specs.Cells.{cuts_of}
use Rattle.cell_split.proofs.cell.low_ends.Given as goal

abbrev pub invariant-loop-i : goal.invariant-loop-i
invariant-loop-i l = Holds l.out.items l.i (λ i. part_low (at l.lo i) (cuts_of (lists l.cuts) i) (slice_index_or l.parts i 0))
