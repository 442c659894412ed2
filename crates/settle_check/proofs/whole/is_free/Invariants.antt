use Rattle.std.proofs.Common.{◌≡◌}
use Rattle.integer_algebra.specs.Sizes.{size}
use Rattle.mat_int.specs.Matrix.{entry_of}
use Rattle.settle_check.proofs.whole.is_free.Given as goal

abbrev pub invariant-loop-l : goal.invariant-loop-l
invariant-loop-l l = record { end : l.l-end ≡ l.parts.inputs; none : size l.l (entry_of l.parts.b l.i) ≡ 0 }
