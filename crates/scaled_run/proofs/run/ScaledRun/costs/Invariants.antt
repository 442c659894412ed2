use Rattle.enclosure.specs.Values.{pair_at}
use Rattle.qp_model.specs.problem.Parts.{design_of}
use Rattle.qp_model.specs.form.FineForm.{fine_cost}
use Rattle.scaled_run.specs.Lists.{HoldsEnclosures}
use Rattle.scaled_run.proofs.run.ScaledRun.costs.Given as goal

abbrev pub invariant-loop-c : goal.invariant-loop-c
invariant-loop-c l = HoldsEnclosures l.out.items l.c (fine_cost (design_of l.self.parts.now) (pair_at l.self.start.items) (pair_at l.self.plan.items))
