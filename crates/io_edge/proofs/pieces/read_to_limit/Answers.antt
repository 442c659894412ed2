use Rattle.std.proofs.Common.{◌++◌, take, arith}
use Rattle.std.proofs.lemmas.Grind.{common_steps}
use Rattle.std.proofs.KnownBytes.{Consumes-trans}
use Rattle.io_edge.proofs.pieces.read_to_limit.Goals as goal

pub returns-in_err-extend_from_slice-clause-taken : goal.returns-in_err-extend_from_slice-clause-taken
returns-in_err-extend_from_slice-clause-taken g c = record {
  taken = c.loop-piece.bytes.items ++ take c.in-Ok.count c.read.new.buf;
  gone = Consumes-trans _ _ _ _ _ c.loop-piece.invariant.gone c.in-Ok.ensures.bytes.0;
  within = grind (arith, common_steps);
}

pub loop-piece-preserved : goal.loop-piece-preserved
loop-piece-preserved g c = grind (arith, common_steps)

pub returns-clause-long : goal.returns-clause-long
returns-clause-long g c = grind (arith, common_steps)
