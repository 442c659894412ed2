use Rattle.std.proofs.Common.{arith, ap, length}
use Rattle.mat_int.specs.Matrix.{Matrix}
use Rattle.scaled_condense.specs.Lists.{mids}
use Rattle.condensed_form.proofs.ColumnFacts.{column_height, column_width}
use Rattle.scaled_condense.proofs.ColumnFacts.{mid_set, rad_set}
use Rattle.scaled_condense.proofs.columns.set_column.Goals as goal

pub set-requires-clause-row_in : goal.set-requires-clause-row_in
set-requires-clause-row_in c =
    omega (arith, ap (λ (m : Matrix). length m.rows) c.loop-i.invariant.0, column_height c.loop-i.i c.args.mat.now.mid c.args.j (mids c.args.column.now))

pub set-requires-clause-col_in : goal.set-requires-clause-col_in
set-requires-clause-col_in c =
    omega (arith, ap (λ (m : Matrix). m.cols) c.loop-i.invariant.0, column_width c.loop-i.i c.args.mat.now.mid c.args.j (mids c.args.column.now))

pub loop-i-preserved : goal.loop-i-preserved
loop-i-preserved c = (
  mid_set c.args.mat.now.mid c.loop-i.mat.mid _ c.loop-i.i c.args.j c.args.column.now c.index-column-i.result c.index-column-i.is c.loop-i-test.true c.loop-i.invariant.0 c.set.ensures.mid,
  rad_set c.args.mat.now.rad c.loop-i.mat.rad _ c.loop-i.i c.args.j c.args.column.now c.index-column-i.result c.index-column-i.is c.loop-i-test.true c.loop-i.invariant.1 c.set.ensures.rad,
)
