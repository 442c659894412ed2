use Rattle.std.proofs.Common.{length}
use Rattle.io_edge.proofs.Passing.{IsPartWritten}
use Rattle.io_edge.proofs.pieces.write_to_end.Given as goal

abbrev pub invariant-loop-rest : goal.invariant-loop-rest
invariant-loop-rest g l = IsPartWritten (g.W.Write.contents l.fn.to) (g.W.Write.contents l.to) l.bytes l.rest

abbrev pub decreases-loop-rest : goal.decreases-loop-rest
decreases-loop-rest g l = length l.rest
