use Rattle.std.proofs.Common.{◌+◌, ◌*◌}
use Rattle.enclosure.specs.Values.{pair_at}
use Rattle.qp_model.specs.problem.Parts.{design_of}
use Rattle.scaled_run.specs.Lists.{HoldsEnclosures}
use Rattle.scaled_run.proofs.ListFacts.{flat_run}
use Rattle.scaled_run.proofs.run.ScaledRun.new.Given as goal

abbrev pub invariant-loop-k : goal.invariant-loop-k
invariant-loop-k l = HoldsEnclosures l.states.items ((l.k + 1) * l.parts.states) (flat_run (design_of l.parts) (pair_at l.start.items) (pair_at l.plan.items))
