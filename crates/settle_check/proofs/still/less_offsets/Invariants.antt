use Rattle.std.proofs.Common.{◌≡◌, ◌+◌, ◌*◌, ◌^◌, ◌≤◌, pos, ◌-ℤ◌, ◌*ℤ◌, unsigned_abs}
use Rattle.std.specs.Int.{int_max}
use Rattle.integer_algebra.specs.Sums.{total, at}
use Rattle.integer_algebra.specs.Sizes.{amount}
use Rattle.mat_int.specs.Matrix.{entry_of}
use Rattle.qp_model.specs.machine.Controller.{numbers, plan_length}
use Rattle.settle_check.proofs.still.less_offsets.Given as goal

abbrev pub invariant-loop-l : goal.invariant-loop-l
invariant-loop-l l = record {
  end : l.l-end ≡ plan_length (numbers l.c);
  value : l.sum.value ≡ total l.l (λ k. int_max (entry_of l.c.g_mat l.i k) (pos 0) -ℤ entry_of l.c.g_mat l.i k *ℤ at l.c.t.items k);
  size : l.sum.size ≡ amount l.l (λ k. unsigned_abs (entry_of l.c.g_mat l.i k) * (unsigned_abs (at l.c.t.items k) + 1));
  room : l.sum.size ≤ 2 ^ 126;
}
