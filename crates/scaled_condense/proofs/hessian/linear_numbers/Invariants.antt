use Rattle.std.proofs.Common.{◌*◌}
use Rattle.qp_model.specs.problem.Parts.{design_of}
use Rattle.scaled_run.specs.ScaledForm.{scaled_linear}
use Rattle.scaled_condense.specs.Lists.{HoldsEncMatrix}
use Rattle.scaled_condense.proofs.hessian.linear_numbers.Given as goal

abbrev pub invariant-loop-i : goal.invariant-loop-i
invariant-loop-i l = HoldsEncMatrix l.mat.mid l.mat.rad (l.parts.stages * l.parts.inputs) l.parts.states l.i (scaled_linear l.over l.den (design_of l.parts))
