use Rattle.qp_model.specs.problem.Design.{rows}
use Rattle.qp_model.specs.problem.Parts.{design_of}
use Rattle.scaled_run.specs.ScaledForm.{scaled_by_state}
use Rattle.scaled_condense.specs.Lists.{HoldsEncMatrix}
use Rattle.scaled_condense.proofs.columns.state_columns.Given as goal

abbrev pub invariant-loop-j : goal.invariant-loop-j
invariant-loop-j l = HoldsEncMatrix l.mat.mid l.mat.rad (rows (design_of l.parts)) l.parts.states l.j (scaled_by_state l.over (design_of l.parts))
