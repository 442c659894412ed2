use Rattle.std.proofs.Common.{◌*ℤ◌}
use Rattle.frac_scaled.specs.Enclosures.{magnitude}
use Rattle.enclosure.specs.Values.{pair_at}
use Rattle.qp_model.specs.problem.Runs.{Holds}
use Rattle.corner_margin.proofs.lists.reaches.Given as goal

abbrev pub invariant-loop-j : goal.invariant-loop-j
invariant-loop-j l = Holds l.out.items l.j (λ j. l.scale *ℤ magnitude (pair_at l.xs j))
