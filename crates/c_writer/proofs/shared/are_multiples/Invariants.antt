use Rattle.std.proofs.Common.{◌≡◌}
use Rattle.c_program.specs.Of.{are_multiples}
use Rattle.c_writer.proofs.shared.are_multiples.Given as goal

abbrev pub invariant-loop-j : goal.invariant-loop-j
invariant-loop-j l = l.multiples ≡ are_multiples l.row l.k l.j
