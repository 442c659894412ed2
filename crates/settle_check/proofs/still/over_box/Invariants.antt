use Rattle.std.proofs.Common.{◌≡◌, ◌*◌, ◌^◌, ◌≤◌, ◌*ℤ◌}
use Rattle.std.specs.Int.{int_max}
use Rattle.integer_algebra.specs.Sums.{total, at}
use Rattle.integer_algebra.specs.Sizes.{amount}
use Rattle.qp_model.specs.machine.Controller.{numbers}
use Rattle.settle_check.specs.Still.{box_of, still_coefficient}
use Rattle.settle_check.specs.StillSize.{still_coefficient_size, furthest}
use Rattle.settle_check.proofs.still.over_box.Given as goal

abbrev pub invariant-loop-j : goal.invariant-loop-j
invariant-loop-j l = record {
  end : l.j-end ≡ l.c.n;
  value : l.sum.value ≡ total l.j (λ k. int_max (still_coefficient (numbers l.c) l.i k *ℤ at l.low k) (still_coefficient (numbers l.c) l.i k *ℤ at l.high k));
  size : l.sum.size ≡ amount l.j (λ k. still_coefficient_size (numbers l.c) l.i k * furthest (box_of l.low l.high) k);
  room : l.sum.size ≤ 2 ^ 126;
}
