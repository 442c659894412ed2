use Rattle.std.proofs.Common.{◌*◌}
use Rattle.qp_model.specs.problem.Parts.{design_of}
use Rattle.scaled_run.specs.ScaledForm.{scaled_hessian}
use Rattle.scaled_condense.specs.Lists.{HoldsEncMatrix}
use Rattle.scaled_condense.proofs.hessian.hessian_numbers.Given as goal

abbrev pub invariant-loop-j : goal.invariant-loop-j
invariant-loop-j l = HoldsEncMatrix l.mat.mid l.mat.rad (l.parts.stages * l.parts.inputs) (l.parts.stages * l.parts.inputs) l.j (scaled_hessian l.over l.den (design_of l.parts))
