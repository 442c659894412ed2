use Rattle.std.proofs.Common.{◌*◌}
use Rattle.qp_model.specs.problem.Design.{rows}
use Rattle.qp_model.specs.problem.Parts.{design_of}
use Rattle.scaled_run.specs.ScaledForm.{scaled_by_plan}
use Rattle.scaled_condense.specs.Lists.{HoldsEncMatrix}
use Rattle.scaled_condense.proofs.columns.plan_columns.Given as goal

abbrev pub invariant-loop-j : goal.invariant-loop-j
invariant-loop-j l = HoldsEncMatrix l.mat.mid l.mat.rad (rows (design_of l.parts)) (l.parts.stages * l.parts.inputs) l.j (scaled_by_plan l.over (design_of l.parts))
