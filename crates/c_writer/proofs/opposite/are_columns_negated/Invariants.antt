use Rattle.std.proofs.Common.{◌≡◌}
use Rattle.integer_algebra.specs.Sums.{at}
use Rattle.mat_int.specs.Matrix.{row_of}
use Rattle.c_program.specs.Of.{are_negated}
use Rattle.c_writer.proofs.opposite.are_columns_negated.Given as goal

abbrev pub invariant-loop-j : goal.invariant-loop-j
invariant-loop-j l = l.negated ≡ are_negated (λ j. at (row_of l.a j) l.k) (λ j. at (row_of l.a j) l.i) l.j
