use Rattle.std.proofs.Common.{◌≡◌}
use Rattle.qp_model.specs.problem.Parts.{design_of}
use Rattle.scaled_run.specs.ScaledSizes.{scaled_reach_from}
use Rattle.scaled_run.proofs.reach.last_reach.Given as goal

abbrev pub invariant-loop : goal.invariant-loop
invariant-loop l = l.reach ≡ scaled_reach_from l.slack (design_of l.parts) l.first l.counter
