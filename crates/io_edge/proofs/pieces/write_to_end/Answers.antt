use Rattle.std.proofs.Common.{arith}
use Rattle.std.proofs.lemmas.Grind.{common_steps}
use Rattle.io_edge.proofs.Passing.{written_more}
use Rattle.io_edge.proofs.pieces.write_to_end.Goals as goal

pub loop-rest-preserved : goal.loop-rest-preserved
loop-rest-preserved g c = written_more _ _ _ _ _ _ _ c.loop-rest.invariant c.in-Ok.ensures.bytes (grind (arith, common_steps))
