use Rattle.std.proofs.Common.{ℕ, ◌<◌, ◌^◌, ◌≤ℤ◌, pos, length}
use Rattle.integer_algebra.specs.Sums.{at}
use Rattle.mat_int.specs.Enclosures.{gram_magnitude, enclosure_at}
use Rattle.enclosure.specs.Products.{products_over}
use Rattle.enclosure.specs.Rows.{AreBegun}
use Rattle.enclosure.proofs.matrix.gram_row.Given as goal

abbrev pub invariant-loop-l : goal.invariant-loop-l
invariant-loop-l c = record {
  made : AreBegun c.j c.l c.x.mid.cols (products_over c.den (length c.weights) (at c.weights) (enclosure_at c.x.mid c.x.rad)) c.made.mid c.made.rad;
  near : (k : ℕ) → k < c.l → gram_magnitude (length c.weights) (at c.weights) (enclosure_at c.x.mid c.x.rad) c.j k ≤ℤ pos (2 ^ 126);
}
