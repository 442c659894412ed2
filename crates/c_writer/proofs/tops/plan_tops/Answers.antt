use Rattle.std.proofs.Common.{◌∙◌, take_all, arith}
use Rattle.qp_model.specs.machine.Controller.{numbers}
use Rattle.qp_model.specs.machine.AbsoluteSums.{plan_magnitudes}
use Rattle.overflow_check.proofs.Sizes.{length-plan_reach}
use Rattle.c_writer.proofs.Lists.{one_more}
use Rattle.c_writer.proofs.tops.plan_tops.Goals as goal

pub loop-j-preserved : goal.loop-j-preserved
loop-j-preserved c =
    let n = numbers c.args.c.now in
    one_more (plan_magnitudes n) c.loop-j.j 0 c.plan_entry_magnitude.result c.loop-j.tops.items c.push.new.self.items (omega (arith, length-plan_reach n, c.loop-j-test.true, c.len-j-end.ensures))
    c.loop-j.invariant c.plan_entry_magnitude.ensures c.in_ok-push.ensures.items

pub returns : goal.returns
returns c =
    let n = numbers c.args.c.now in
    c.loop-j.invariant ∙ take_all c.loop-j.j (plan_magnitudes n) (omega (arith, length-plan_reach n, c.loop-j-test.false, c.len-j-end.ensures))
