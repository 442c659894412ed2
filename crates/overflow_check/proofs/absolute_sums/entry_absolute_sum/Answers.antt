use Rattle.std.proofs.Common.{arith}
use Rattle.qp_model.specs.machine.Controller.{numbers}
use Rattle.std.proofs.lemmas.Grind.{common_steps}
use Rattle.overflow_check.specs.FastController.{with_last_version}
use Rattle.overflow_check.proofs.Sizes.{length-state_reach}
use Rattle.overflow_check.proofs.absolute_sums.entry_absolute_sum.Goals as goal

pub weighted_abs_sum-requires : goal.weighted_abs_sum-requires
weighted_abs_sum-requires c =
    rw c.requires.states (omega (arith, c.row.ensures.len, c.requires.sized.shaped.state_gains.cols, length-state_reach (with_last_version (numbers c.args.c.now)) c.requires.sized))

pub returns-in_err-dual : goal.returns-in_err-dual
returns-in_err-dual c = grind (arith, common_steps)

pub returns : goal.returns
returns c = grind (arith, common_steps)
