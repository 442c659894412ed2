use Rattle.packed_rows.proofs.RowFacts.{TakenSoFar}
use Rattle.packed_rows.proofs.unpacking.take_numbers.Given as goal

abbrev pub invariant-loop-z : goal.invariant-loop-z
invariant-loop-z l = TakenSoFar l.bytes l.row l.z-index l.rest
