use Rattle.std.proofs.Common.{◌%◌}
use Rattle.integer_algebra.specs.Sums.{at}
use Rattle.qp_model.specs.problem.Runs.{Holds}
use Rattle.corner_margin.proofs.lists.entry_weights.Given as goal

abbrev pub invariant-loop-j : goal.invariant-loop-j
invariant-loop-j l = Holds l.out.items l.j (λ j. at l.parts.input_weights.items (j % l.parts.inputs))
