use Rattle.std.proofs.Common.{below_more}
use Rattle.settle_check.proofs.check.test_rows.Goals as goal

pub loop-i-preserved : goal.loop-i-preserved
loop-i-preserved c = record { end = c.loop-i.invariant.end; still = below_more _ _ c.loop-i.invariant.still c.in_ok-test_row.ensures.right }
