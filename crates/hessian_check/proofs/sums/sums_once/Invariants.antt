use Rattle.hessian_check.specs.RowSums.{AreRowSums, first_rows}
use Rattle.hessian_check.proofs.sums.sums_once.Given as goal

abbrev pub invariant-loop-i : goal.invariant-loop-i
invariant-loop-i l = AreRowSums l.c (first_rows l.i) l.sums.mid l.sums.rad
