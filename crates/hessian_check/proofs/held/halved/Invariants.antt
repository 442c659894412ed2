use Rattle.std.proofs.Common.{length}
use Rattle.mat_int.specs.Matrix.{entry_of}
use Rattle.hessian_check.specs.Filling.{HasFirstRows}
use Rattle.hessian_check.specs.Steps.{half_of}
use Rattle.hessian_check.proofs.held.halved.Given as goal

abbrev pub invariant-loop-i : goal.invariant-loop-i
invariant-loop-i l = HasFirstRows (length l.mat.rows) (half_of (entry_of l.mat)) l.out l.i
