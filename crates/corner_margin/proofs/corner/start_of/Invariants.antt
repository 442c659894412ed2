use Rattle.std.proofs.Common.{◌+◌}
use Rattle.qp_model.specs.problem.Parts.{design_of}
use Rattle.scaled_run.specs.ScaledCorners.{scaled_corner_state}
use Rattle.scaled_run.specs.Lists.{HoldsEnclosures}
use Rattle.corner_margin.proofs.corner.start_of.Given as goal

abbrev pub invariant-loop-i : goal.invariant-loop-i
invariant-loop-i l = HoldsEnclosures l.out.items l.i (scaled_corner_state l.unit (design_of l.parts) (l.c + 1))
