use Rattle.std.proofs.Common.{length}
use Rattle.approx_inverse.specs.Root.{HasRootSizes}
use Rattle.approx_inverse.proofs.guess.Root.of.Given as goal

abbrev pub invariant-loop-i : goal.invariant-loop-i
invariant-loop-i l = HasRootSizes (length l.h.rows) l.root
