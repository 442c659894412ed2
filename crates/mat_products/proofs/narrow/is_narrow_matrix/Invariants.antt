use Rattle.std.proofs.Common.{All, take}
use Rattle.mat_products.specs.Narrow.{IsNarrow}
use Rattle.mat_products.proofs.narrow.is_narrow_matrix.Given as goal

abbrev pub invariant-loop-i : goal.invariant-loop-i
invariant-loop-i l = All (All IsNarrow) (take l.i l.a.rows)
