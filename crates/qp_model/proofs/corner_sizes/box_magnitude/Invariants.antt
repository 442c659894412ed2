use Rattle.std.proofs.Common.{◌≡◌, ◌<◌, ◌^◌, max, unsigned_abs}
use Rattle.integer_algebra.specs.Sums.{at}
use Rattle.qp_model.specs.form.Quantities.{greatest}
use Rattle.qp_model.proofs.corner_sizes.box_magnitude.Given as goal

abbrev pub invariant-loop-i : goal.invariant-loop-i
invariant-loop-i l = record {
  value : l.most ≡ greatest l.i (λ i. max (unsigned_abs (at l.parts.lo.items i)) (unsigned_abs (at l.parts.hi.items i)));
  small : l.most < 2 ^ 31;
}
