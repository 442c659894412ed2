use Rattle.std.proofs.Common.{length}
use Rattle.integer_algebra.specs.Sums.{at}
use Rattle.mat_int.specs.Enclosures.{gram_magnitude, enclosure_at, AllNear}
use Rattle.enclosure.specs.Products.{products_over}
use Rattle.enclosure.specs.Rows.{AreBegun}
use Rattle.enclosure.proofs.matrix.gram_over.Given as goal

abbrev pub invariant-loop-j : goal.invariant-loop-j
invariant-loop-j l = record {
  made : AreBegun l.j 0 l.x.mid.cols (products_over l.den (length l.weights) (at l.weights) (enclosure_at l.x.mid l.x.rad)) l.made.mid l.made.rad;
  near : AllNear l.j l.x.mid.cols (gram_magnitude (length l.weights) (at l.weights) (enclosure_at l.x.mid l.x.rad));
}
