use Rattle.std.proofs.Common.{◌<◌, arith}
use Rattle.step_error.proofs.radii.greatest_column.Goals as goal

pub column_sum-requires-clause-small : goal.column_sum-requires-clause-small
column_sum-requires-clause-small c =
    let l : c.loop-j.j < c.args.mat.now.cols = omega (arith, c.loop-j-test.true, c.cols-j-end.ensures) in
    c.requires c.loop-j.j l
