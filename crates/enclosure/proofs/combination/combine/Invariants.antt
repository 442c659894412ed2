use Rattle.std.proofs.Common.{◌≡◌}
use Rattle.integer_algebra.specs.Sums.{at}
use Rattle.mat_int.specs.Enclosures.{combination}
use Rattle.enclosure.specs.Values.{pair, pair_at}
use Rattle.enclosure.proofs.SumLaws.{combination_size}
use Rattle.enclosure.proofs.combination.combine.Given as goal

abbrev pub invariant-loop-i : goal.invariant-loop-i
invariant-loop-i l = record {
  value : pair l.sum.value ≡ combination l.i (at l.coeffs) (pair_at l.xs);
  magnitude : l.sum.magnitude ≡ combination_size l.i (at l.coeffs) (pair_at l.xs);
}
