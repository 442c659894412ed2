use Rattle.std.proofs.Common.{◌≡◌, ◌*◌, ◌^◌, ◌≤◌, max, ◌*ℤ◌, unsigned_abs}
use Rattle.integer_algebra.specs.Sums.{total, at}
use Rattle.integer_algebra.specs.Sizes.{amount}
use Rattle.mat_int.specs.Matrix.{entry_of}
use Rattle.settle_check.proofs.rows.input_of_row.Given as goal

abbrev pub invariant-loop-i : goal.invariant-loop-i
invariant-loop-i l = record {
  end : l.i-end ≡ l.parts.states;
  value : l.sum.value ≡ total l.i (λ i. entry_of l.parts.b i l.l *ℤ at l.row i);
  size : l.sum.size ≡ amount l.i (λ i. unsigned_abs (entry_of l.parts.b i l.l) * max (unsigned_abs (at l.row i)) 1);
  room : l.sum.size ≤ 2 ^ 126;
}
