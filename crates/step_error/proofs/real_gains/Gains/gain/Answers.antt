use Rattle.std.proofs.Common.{arith}
use Rattle.step_error.proofs.real_gains.Gains.gain.Goals as goal

pub at-requires-clause-row_in : goal.at-requires-clause-row_in
at-requires-clause-row_in c = omega (arith, c.requires.entry, c.args.self.now.made.state_gains.rows)

pub at-requires-clause-col_in : goal.at-requires-clause-col_in
at-requires-clause-col_in c = omega (arith, c.if-i-states.true, c.cols-states.ensures, c.args.self.now.made.state_gains.cols)

pub overflow_sub-i : goal.overflow_sub-i
overflow_sub-i c = omega (arith, c.if-i-states.false, c.if-i-states-2.false)

pub at-requires-else-i-states-2-clause-row_in : goal.at-requires-else-i-states-2-clause-row_in
at-requires-else-i-states-2-clause-row_in c = omega (arith, c.requires.entry, c.args.self.now.made.dual_gains.rows)

pub at-requires-else-i-states-2-clause-col_in : goal.at-requires-else-i-states-2-clause-col_in
at-requires-else-i-states-2-clause-col_in c = omega (arith, c.requires.column, c.if-i-states.false, c.if-i-states-2.false, c.cols-states.ensures, c.args.self.now.made.dual_gains.cols)

pub bounds-self-l : goal.bounds-self-l
bounds-self-l c = omega (arith, c.requires.entry, c.args.self.now.made.offsets)
