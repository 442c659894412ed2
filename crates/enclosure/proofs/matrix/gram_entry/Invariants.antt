use Rattle.std.proofs.Common.{◌≡◌}
use Rattle.integer_algebra.specs.Sums.{at}
use Rattle.frac_scaled.specs.Enclosures.{whole_product}
use Rattle.mat_int.specs.Enclosures.{gram_sum, enclosure_at}
use Rattle.enclosure.specs.Values.{pair}
use Rattle.enclosure.proofs.SumLaws.{combination_size}
use Rattle.enclosure.proofs.matrix.gram_entry.Given as goal

abbrev pub invariant-loop-i : goal.invariant-loop-i
invariant-loop-i l = record {
  value : pair l.sum.value ≡ gram_sum l.i (at l.weights) (enclosure_at l.x.mid l.x.rad) l.j l.l;
  magnitude : l.sum.magnitude ≡ combination_size l.i (at l.weights) (λ i. whole_product (enclosure_at l.x.mid l.x.rad i l.j) (enclosure_at l.x.mid l.x.rad i l.l));
}
