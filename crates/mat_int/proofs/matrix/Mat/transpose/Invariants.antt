use Rattle.std.proofs.Common.{◌≡◌, length, map}
use Rattle.std.specs.List.{range_with_len}
use Rattle.mat_int.specs.Matrix.{column_of}
use Rattle.mat_int.proofs.matrix.Mat.transpose.Given as goal

abbrev pub invariant-loop-j : goal.invariant-loop-j
invariant-loop-j l = record {
  cols : l.transposed.cols ≡ length l.self.rows;
  rows : l.transposed.rows ≡ map (column_of l.self) (range_with_len 0 l.j);
}
