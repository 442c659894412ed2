use Rattle.std.proofs.Common.{◌≡◌, take}
use Rattle.cell_split.proofs.copies.copied.Given as goal

abbrev pub invariant-loop-i : goal.invariant-loop-i
invariant-loop-i l = record { cols : l.out.cols ≡ l.mat.cols; rows : l.out.rows ≡ take l.i l.mat.rows }
