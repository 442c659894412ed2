use Rattle.mat_int.specs.Enclosures.{enclosure_at}
use Rattle.hessian_check.specs.Filling.{HasFirstEnclosures}
use Rattle.hessian_check.specs.RowSums.{more_sum}
use Rattle.hessian_check.proofs.sums.with_row.Given as goal

abbrev pub invariant-loop-j : goal.invariant-loop-j
invariant-loop-j l = HasFirstEnclosures l.mid.cols (more_sum l.sums.mid l.sums.rad (enclosure_at l.mid l.rad l.i) l.count) l.more.mid l.more.rad l.j
