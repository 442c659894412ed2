use Rattle.scaled_run.specs.ScaledForm.{whole}
use Rattle.qp_model.specs.problem.Parts.{design_of}
use Rattle.qp_model.specs.form.FineForm.{counted_row}
use Rattle.scaled_run.specs.Lists.{HoldsEnclosures}
use Rattle.scaled_condense.proofs.columns.targets.Given as goal

abbrev pub invariant-loop-c : goal.invariant-loop-c
invariant-loop-c l = HoldsEnclosures l.out.items l.c (λ c. whole l.over (counted_row (design_of l.parts) c).target)
