use Rattle.mat_int.specs.Enclosures.{enclosure_at}
use Rattle.hessian_check.specs.Filling.{HasPartEnclosures}
use Rattle.hessian_check.specs.RowSums.{more_sum}
use Rattle.hessian_check.proofs.sums.add_products.Given as goal

abbrev pub invariant-loop-l : goal.invariant-loop-l
invariant-loop-l l = HasPartEnclosures l.mid.cols (more_sum l.sums.mid l.sums.rad (enclosure_at l.mid l.rad l.i) l.count) l.more.mid l.more.rad l.j l.l
