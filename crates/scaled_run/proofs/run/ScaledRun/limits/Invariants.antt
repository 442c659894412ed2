use Rattle.enclosure.specs.Values.{pair_at}
use Rattle.qp_model.specs.problem.Parts.{design_of}
use Rattle.qp_model.specs.form.FineForm.{fine_limit}
use Rattle.scaled_run.specs.Lists.{HoldsEnclosures}
use Rattle.scaled_run.proofs.run.ScaledRun.limits.Given as goal

abbrev pub invariant-loop-i : goal.invariant-loop-i
invariant-loop-i l = HoldsEnclosures l.out.items l.i (fine_limit (design_of l.self.parts.now) (pair_at l.self.start.items) (pair_at l.self.plan.items))
