use Rattle.std.proofs.Common.{length}
use Rattle.mat_int.specs.Matrix.{entry_of}
use Rattle.hessian_check.specs.Filling.{HasFirstEntries}
use Rattle.hessian_check.specs.StepMatrices.{mixed}
use Rattle.hessian_check.proofs.matrices.mix_row.Given as goal

abbrev pub invariant-loop-j : goal.invariant-loop-j
invariant-loop-j l = HasFirstEntries (length l.a.rows) (mixed l.x (entry_of l.a) l.y (entry_of l.b)) l.out l.i l.j
