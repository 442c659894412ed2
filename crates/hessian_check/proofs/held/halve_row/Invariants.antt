use Rattle.std.proofs.Common.{length}
use Rattle.mat_int.specs.Matrix.{entry_of}
use Rattle.hessian_check.specs.Filling.{HasFirstEntries}
use Rattle.hessian_check.specs.Steps.{half_of}
use Rattle.hessian_check.proofs.held.halve_row.Given as goal

abbrev pub invariant-loop-j : goal.invariant-loop-j
invariant-loop-j l = HasFirstEntries (length l.mat.rows) (half_of (entry_of l.mat)) l.out l.i l.j
