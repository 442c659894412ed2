use Rattle.std.proofs.Common.{◌≡◌}
use Rattle.integer_algebra.specs.Sums.{at}
use Rattle.mat_int.specs.Matrix.{row_of}
use Rattle.c_program.specs.Of.{any_below, is_product}
use Rattle.c_writer.proofs.needed.has_column_product.Given as goal

abbrev pub invariant-loop-j : goal.invariant-loop-j
invariant-loop-j l = l.found ≡ any_below (λ j. is_product (at (row_of l.a j) l.k) l.top) l.j
