use Rattle.std.proofs.Common.{arith}
use Rattle.qp_model.specs.machine.Controller.{numbers}
use Rattle.overflow_check.specs.FastController.{with_last_version}
use Rattle.overflow_check.proofs.Sizes.{length-state_reach, length-plan_reach}
use Rattle.overflow_check.proofs.absolute_sums.row_absolute_sum.Goals as goal

pub weighted_abs_sum-requires : goal.weighted_abs_sum-requires
weighted_abs_sum-requires c =
    rw c.requires.plan (omega (arith, c.row.ensures.len, c.requires.sized.shaped.plan_rows.cols, c.requires.sized.shaped.offsets, length-plan_reach (numbers c.args.c.now)))

pub weighted_abs_sum-requires-2 : goal.weighted_abs_sum-requires-2
weighted_abs_sum-requires-2 c =
    rw c.requires.states (omega (arith, c.row-2.ensures.len, c.requires.sized.shaped.state_rows.cols, length-state_reach (with_last_version (numbers c.args.c.now)) c.requires.sized))
