use Rattle.std.proofs.Common.{arith}
use Rattle.std.proofs.lemmas.Grind.{common_steps}
use Rattle.mat_int.proofs.matrix.Mat.zero.Goals as goal

pub loop-preserved : goal.loop-preserved
loop-preserved c = record {
  lines = grind (arith, common_steps);
  zeros = grind (arith, common_steps);
}
