use Rattle.std.proofs.Common.{length}
use Rattle.hessian_check.specs.Filling.{HasPartEnclosures}
use Rattle.hessian_check.specs.RowSums.{rounded_sum}
use Rattle.hessian_check.proofs.held.round_row.Given as goal

abbrev pub invariant-loop-j : goal.invariant-loop-j
invariant-loop-j l = HasPartEnclosures (length l.sums.mid.rows) (rounded_sum l.sums.mid l.sums.rad) l.out.mid l.out.rad l.i l.j
