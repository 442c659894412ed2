use Rattle.std.proofs.Common.{◌≡◌}
use Rattle.condensed_form.specs.Lists.{with_column}
use Rattle.scaled_condense.specs.Lists.{mids, rads}
use Rattle.scaled_condense.proofs.columns.set_column.Given as goal

abbrev pub invariant-loop-i : goal.invariant-loop-i
invariant-loop-i l = (l.mat.mid ≡ with_column l.i l.initial.mat.mid l.j (mids l.column)) × (l.mat.rad ≡ with_column l.i l.initial.mat.rad l.j (rads l.column))
