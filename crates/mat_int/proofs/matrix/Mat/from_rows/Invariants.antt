use Rattle.std.proofs.Common.{◌≡◌, length, map, take}
use Rattle.std.specs.Prelude.{All}
use Rattle.mat_int.proofs.matrix.Mat.from_rows.Given as goal

abbrev pub invariant-loop-row : goal.invariant-loop-row
invariant-loop-row l = record {
  cols : l.mat.cols ≡ l.cols;
  rows : l.mat.rows ≡ map (λ row. row.now) (take l.row-index l.rows);
  even : All (λ row. length row.now ≡ l.cols) (take l.row-index l.rows);
}
