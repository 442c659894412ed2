use Rattle.std.proofs.Common.{◌≡◌, ◌*◌, ◌^◌, ◌≤◌, ◌*ℤ◌, unsigned_abs}
use Rattle.integer_algebra.specs.Sums.{total}
use Rattle.integer_algebra.specs.Sizes.{amount}
use Rattle.mat_int.specs.Matrix.{entry_of}
use Rattle.qp_model.specs.machine.Controller.{numbers, plan_length}
use Rattle.settle_check.proofs.still.gains.Given as goal

abbrev pub invariant-loop-l : goal.invariant-loop-l
invariant-loop-l l = record {
  end : l.l-end ≡ plan_length (numbers l.c);
  value : l.sum.value ≡ total l.l (λ k. entry_of l.c.p_mat k l.j *ℤ entry_of l.c.g_mat l.i k);
  size : l.sum.size ≡ amount l.l (λ k. unsigned_abs (entry_of l.c.p_mat k l.j) * unsigned_abs (entry_of l.c.g_mat l.i k));
  room : l.sum.size ≤ 2 ^ 126;
}
