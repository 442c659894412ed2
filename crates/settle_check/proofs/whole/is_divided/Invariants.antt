use Rattle.std.proofs.Common.{◌≡◌, ◌%◌, unsigned_abs}
use Rattle.integer_algebra.specs.Sizes.{amount}
use Rattle.mat_int.specs.Matrix.{entry_of}
use Rattle.settle_check.proofs.whole.is_divided.Given as goal

abbrev pub invariant-loop-k : goal.invariant-loop-k
invariant-loop-k l = record {
  end : l.k-end ≡ l.parts.states;
  none : amount l.k (λ k. unsigned_abs (entry_of l.parts.a l.i k) % unsigned_abs l.parts.plant_den) ≡ 0;
}
