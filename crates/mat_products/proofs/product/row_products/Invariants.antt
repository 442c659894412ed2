use Rattle.std.proofs.Common.{◌≡◌, ℕ, ◌<◌, ◌^◌, length, map, take, get_or, []}
use Rattle.std.specs.Prelude.{All}
use Rattle.mat_int.specs.Matrix.{times}
use Rattle.mat_int.specs.Row.{abs_dot}
use Rattle.mat_products.proofs.product.row_products.Given as goal

abbrev pub invariant-loop-i : goal.invariant-loop-i
invariant-loop-i l = record {
  line : length l.line.items ≡ length l.b.rows;
  cols : l.products.cols ≡ length l.b.rows;
  rows : l.products.rows ≡ map (times l.b) (take l.i l.a.rows);
  narrow : (k : ℕ) → k < l.i → All (λ row. abs_dot row (get_or l.a.rows k []) < 2 ^ 127) l.b.rows;
}
