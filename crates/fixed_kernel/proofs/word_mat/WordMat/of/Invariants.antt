use Rattle.std.proofs.Common.{◌≡◌, take}
use Rattle.std.specs.Prelude.{All}
use Rattle.fixed_kernel.specs.WordLines.{HasColumns}
use Rattle.fixed_kernel.proofs.word_mat.WordMat.of.Given as goal

abbrev pub invariant-loop-i : goal.invariant-loop-i
invariant-loop-i l = record {
  long : All (HasColumns l.cols) l.rows.items;
  same : l.rows.items ≡ take l.i l.a.rows;
}
