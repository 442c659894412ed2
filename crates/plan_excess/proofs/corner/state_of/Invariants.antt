use Rattle.std.proofs.Common.{suc}
use Rattle.qp_model.specs.problem.Box.{corner}
use Rattle.qp_model.specs.problem.Parts.{design_of}
use Rattle.qp_model.specs.problem.Runs.{Holds}
use Rattle.plan_excess.proofs.corner.state_of.Given as goal

abbrev pub invariant-loop-i : goal.invariant-loop-i
invariant-loop-i l = Holds l.out.items l.i (corner (design_of l.parts) (suc l.c))
