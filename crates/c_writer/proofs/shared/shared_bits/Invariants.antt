use Rattle.std.proofs.Common.{◌≡◌, length}
use Rattle.c_program.specs.Of.{shared_bits}
use Rattle.c_writer.proofs.shared.shared_bits.Given as goal

abbrev pub invariant-loop-k : goal.invariant-loop-k
invariant-loop-k l = l.bits ≡ shared_bits l.row (length l.row) l.k
