use Rattle.std.proofs.Common.{length}
use Rattle.hessian_check.specs.Filling.{HasFirstEnclosures}
use Rattle.hessian_check.specs.RowSums.{rounded_sum}
use Rattle.hessian_check.proofs.held.rounded.Given as goal

abbrev pub invariant-loop-i : goal.invariant-loop-i
invariant-loop-i l = HasFirstEnclosures (length l.sums.mid.rows) (rounded_sum l.sums.mid l.sums.rad) l.out.mid l.out.rad l.i
