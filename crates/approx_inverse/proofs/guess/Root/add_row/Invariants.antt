use Rattle.std.proofs.Common.{length}
use Rattle.approx_inverse.specs.Root.{HasRootSizes}
use Rattle.approx_inverse.proofs.guess.Root.add_row.Given as goal

abbrev pub invariant-loop-j : goal.invariant-loop-j
invariant-loop-j l = HasRootSizes (length l.h.rows) l.self
