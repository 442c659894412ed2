use Rattle.std.proofs.Common.{length}
use Rattle.mat_int.specs.Matrix.{entry_of}
use Rattle.hessian_check.specs.Filling.{HasFirstRows}
use Rattle.hessian_check.specs.StepMatrices.{mixed}
use Rattle.hessian_check.proofs.matrices.mix.Given as goal

abbrev pub invariant-loop-i : goal.invariant-loop-i
invariant-loop-i l = HasFirstRows (length l.a.rows) (mixed l.x (entry_of l.a) l.y (entry_of l.b)) l.out l.i
