use Rattle.std.proofs.Common.{◌≡◌, ◌≤◌, ◌^◌}
use Rattle.mat_int.specs.Matrix.{entry_of}
use Rattle.approx_inverse.specs.DescentSize.{greatest_row}
use Rattle.approx_inverse.proofs.room.greatest_row.Given as goal

abbrev pub invariant-loop-i : goal.invariant-loop-i
invariant-loop-i l = record {
  is : l.greatest ≡ greatest_row l.i l.h.cols (entry_of l.h);
  small : l.greatest ≤ 2 ^ 126;
}
