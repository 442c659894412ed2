use Rattle.std.proofs.Common.{◌≡◌, ◌^◌, ◌≤◌, ◌*◌, ◌*ℤ◌, unsigned_abs}
use Rattle.std.specs.Int.{int_max}
use Rattle.integer_algebra.specs.Sums.{total, at}
use Rattle.integer_algebra.specs.Sizes.{amount}
use Rattle.settle_check.specs.Still.{box_of}
use Rattle.settle_check.specs.StillSize.{furthest}
use Rattle.settle_check.proofs.rows.row_over.Given as goal

abbrev pub invariant-loop-k : goal.invariant-loop-k
invariant-loop-k l = record {
  end : l.k-end ≡ l.parts.states;
  value : l.sum.value ≡ total l.k (λ k. int_max (at l.row k *ℤ at l.low k) (at l.row k *ℤ at l.high k));
  size : l.sum.size ≡ amount l.k (λ k. unsigned_abs (at l.row k) * furthest (box_of l.low l.high) k);
  room : l.sum.size ≤ 2 ^ 126;
}
