use Rattle.std.proofs.Common.{◌≡◌, ◌*◌, ◌^◌, ◌≤◌, ◌*ℤ◌, unsigned_abs}
use Rattle.integer_algebra.specs.Sums.{total}
use Rattle.integer_algebra.specs.Sizes.{amount}
use Rattle.mat_int.specs.Matrix.{entry_of}
use Rattle.settle_check.proofs.rows.feedback.Given as goal

abbrev pub invariant-loop-l : goal.invariant-loop-l
invariant-loop-l l = record {
  end : l.l-end ≡ l.parts.inputs;
  value : l.sum.value ≡ total l.l (λ k. entry_of l.parts.b l.i k *ℤ entry_of l.c.p_mat k l.k);
  size : l.sum.size ≡ amount l.l (λ k. unsigned_abs (entry_of l.parts.b l.i k) * unsigned_abs (entry_of l.c.p_mat k l.k));
  room : l.sum.size ≤ 2 ^ 126;
}
