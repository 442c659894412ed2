use Rattle.std.proofs.Common.{◌≡◌, ◌*◌, ◌^◌, ◌≤◌, max, ◌*ℤ◌, unsigned_abs}
use Rattle.integer_algebra.specs.Sums.{total, at}
use Rattle.integer_algebra.specs.Sizes.{amount}
use Rattle.qp_model.specs.problem.Parts.{design_of}
use Rattle.qp_model.specs.machine.Controller.{numbers}
use Rattle.settle_check.specs.ClosedRows.{loop_matrix}
use Rattle.settle_check.specs.TurnSize.{loop_size}
use Rattle.settle_check.proofs.rows.through_loop.Given as goal

abbrev pub invariant-loop-i : goal.invariant-loop-i
invariant-loop-i l = record {
  end : l.i-end ≡ l.parts.states;
  value : l.sum.value ≡ total l.i (λ i. loop_matrix (design_of l.parts) (numbers l.c) i l.k *ℤ at l.row i);
  size : l.sum.size ≡ amount l.i (λ i. loop_size (design_of l.parts) (numbers l.c) i l.k * max (unsigned_abs (at l.row i)) 1);
  room : l.sum.size ≤ 2 ^ 126;
}
