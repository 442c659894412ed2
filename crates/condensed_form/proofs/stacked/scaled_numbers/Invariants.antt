use Rattle.std.proofs.Common.{◌*ℤ◌}
use Rattle.qp_model.specs.problem.Runs.{Holds}
use Rattle.condensed_form.specs.Lists.{stacked}
use Rattle.condensed_form.proofs.stacked.scaled_numbers.Given as goal

abbrev pub invariant-loop-i : goal.invariant-loop-i
invariant-loop-i l = Holds l.out.items l.i (λ i. l.scale *ℤ stacked l.stages l.stage_rows l.j l.final_rows l.k i)
