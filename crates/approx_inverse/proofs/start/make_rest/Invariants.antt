use Rattle.std.proofs.Common.{◌≡◌, ℕ, ◌<◌, length}
use Rattle.integer_algebra.specs.Sums.{at}
use Rattle.mat_int.specs.Matrix.{entry_of}
use Rattle.approx_inverse.specs.Descent.{aim, system_residual}
use Rattle.approx_inverse.proofs.start.make_rest.Given as goal

abbrev pub invariant-loop-i : goal.invariant-loop-i
invariant-loop-i l = (k : ℕ) → k < l.i → at l.rest k ≡ system_residual (length l.c) (entry_of l.h) (aim l.f l.c) (at l.x) k
