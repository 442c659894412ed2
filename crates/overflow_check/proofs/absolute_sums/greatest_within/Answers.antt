use Rattle.std.proofs.Common.{arith}
use Rattle.overflow_check.proofs.absolute_sums.greatest_within.Goals as goal

pub returns-in_err-entries : goal.returns-in_err-entries
returns-in_err-entries c = rw c.from_residual.ensures (λ h. c.in_err-entries.ensures.wide (omega (arith, h)))

pub returns-in_err-row : goal.returns-in_err-row
returns-in_err-row c = rw c.from_residual-in_err-row.ensures (λ h. c.in_err-row.ensures (omega (arith, h)))

pub plan_magnitudes-requires-clause-sized : goal.plan_magnitudes-requires-clause-sized
plan_magnitudes-requires-clause-sized c = c.requires.sized

pub plan_magnitudes-requires-clause-states : goal.plan_magnitudes-requires-clause-states
plan_magnitudes-requires-clause-states c = c.requires.states

pub plan_magnitudes-requires-clause-clamps : goal.plan_magnitudes-requires-clause-clamps
plan_magnitudes-requires-clause-clamps c = c.requires.clamps

pub greatest_row-requires-clause-sized : goal.greatest_row-requires-clause-sized
greatest_row-requires-clause-sized c = c.requires.sized

pub greatest_row-requires-clause-states : goal.greatest_row-requires-clause-states
greatest_row-requires-clause-states c = c.requires.states
