use Rattle.std.proofs.Common.{◌+◌, ◌*◌}
use Rattle.qp_model.specs.problem.Parts.{design_of}
use Rattle.qp_model.specs.problem.Runs.{counts}
use Rattle.scaled_run.specs.ScaledForm.{scaled_costs}
use Rattle.scaled_condense.specs.Lists.{HoldsEncMatrix}
use Rattle.scaled_condense.proofs.columns.cost_columns.Given as goal

abbrev pub invariant-loop-j : goal.invariant-loop-j
invariant-loop-j l = HoldsEncMatrix l.mat.mid l.mat.rad (counts (design_of l.parts)) (l.parts.stages * l.parts.inputs + l.parts.states + 1) l.j (scaled_costs l.over (design_of l.parts))
