use Rattle.mat_int.specs.Matrix.{entry_of, HasEntries}
use Rattle.hessian_check.proofs.held.copied.Given as goal

abbrev pub invariant-loop-i : goal.invariant-loop-i
invariant-loop-i l = HasEntries l.i l.mat.cols (entry_of l.mat) l.out
