use Rattle.std.proofs.Common.{◌≡◌, ◌^◌, ◌≤◌, ◌*ℤ◌}
use Rattle.std.specs.Int.{int_max}
use Rattle.integer_algebra.specs.Sums.{total, at}
use Rattle.integer_algebra.specs.Sizes.{amount}
use Rattle.qp_model.specs.problem.Parts.{design_of}
use Rattle.qp_model.specs.machine.Controller.{numbers}
use Rattle.settle_check.specs.Still.{box_of}
use Rattle.settle_check.specs.ClosedRows.{left_of}
use Rattle.settle_check.specs.TurnSize.{left_over_size}
use Rattle.settle_check.proofs.rows.lefts_over.Given as goal

abbrev pub invariant-loop-k : goal.invariant-loop-k
invariant-loop-k l = record {
  end : l.k-end ≡ l.parts.states;
  value : l.sum.value ≡ total l.k (λ k. int_max (left_of (design_of l.parts) (numbers l.c) (at l.row) (at l.next) k *ℤ at l.low k) (left_of (design_of l.parts) (numbers l.c) (at l.row) (at l.next) k *ℤ at l.high k));
  size : l.sum.size ≡ amount l.k (left_over_size (design_of l.parts) (numbers l.c) (box_of l.low l.high) (at l.row) (at l.next));
  room : l.sum.size ≤ 2 ^ 126;
}
