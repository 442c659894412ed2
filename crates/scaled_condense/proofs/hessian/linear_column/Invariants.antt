use Rattle.qp_model.specs.problem.Parts.{design_of}
use Rattle.scaled_run.specs.ScaledForm.{scaled_linear}
use Rattle.scaled_run.specs.Lists.{HoldsEnclosures}
use Rattle.scaled_condense.proofs.hessian.linear_column.Given as goal

abbrev pub invariant-loop-j : goal.invariant-loop-j
invariant-loop-j l = HoldsEnclosures l.out.items l.j (λ j. scaled_linear l.over l.den (design_of l.parts) j l.i)
