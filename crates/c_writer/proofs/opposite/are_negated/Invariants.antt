use Rattle.std.proofs.Common.{◌≡◌}
use Rattle.integer_algebra.specs.Sums.{at}
use Rattle.c_program.specs.Of.{are_negated}
use Rattle.c_writer.proofs.opposite.are_negated.Given as goal

abbrev pub invariant-loop-j : goal.invariant-loop-j
invariant-loop-j l = l.negated ≡ are_negated (at l.xs) (at l.ys) l.j
