use Rattle.std.proofs.Common.{◌^◌}
use Rattle.qp_model.specs.machine.Controller.{numbers}
use Rattle.overflow_check.specs.FastController.{with_last_version}
use Rattle.overflow_check.proofs.SumLaws.{sums_fit}
use Rattle.overflow_check.proofs.absolute_sums.row_magnitude.Goals as goal

pub unreachable-requires : goal.unreachable-requires
unreachable-requires c =
    c.in-None.ensures ((sums_fit (with_last_version (numbers c.args.parts.now)) (2 ^ 126) c.requires.sound.room).rows c.args.i c.requires.in_range)

pub row_absolute_sum-requires-clause-plan : goal.row_absolute_sum-requires-clause-plan
row_absolute_sum-requires-clause-plan c = c.requires.plan

pub row_absolute_sum-requires-clause-in_range : goal.row_absolute_sum-requires-clause-in_range
row_absolute_sum-requires-clause-in_range c = c.requires.in_range
