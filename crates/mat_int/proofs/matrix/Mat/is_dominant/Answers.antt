use Rattle.std.proofs.Common.{arith}
use Rattle.std.proofs.lemmas.Grind.{elements}
use Rattle.mat_int.proofs.matrix.Mat.is_dominant.Goals as goal

pub returns-clause-wide : goal.returns-clause-wide
returns-clause-wide c = grind (arith, elements)
