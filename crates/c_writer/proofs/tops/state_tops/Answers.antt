use Rattle.std.proofs.Common.{◌∙◌, arith, take_all}
use Rattle.qp_model.specs.machine.Controller.{numbers}
use Rattle.qp_model.specs.machine.AbsoluteSums.{state_magnitudes}
use Rattle.overflow_check.proofs.Sizes.{length-state_reach}
use Rattle.overflow_check.specs.FastController.{with_last_version}
use Rattle.c_writer.proofs.Lists.{one_more}
use Rattle.c_writer.proofs.tops.state_tops.Goals as goal

pub loop-k-preserved : goal.loop-k-preserved
loop-k-preserved c =
    let n = numbers c.args.c.now in
    one_more (state_magnitudes n) c.loop-k.k 0 c.state_magnitude.result c.loop-k.tops.items c.push.new.self.items (omega (arith, length-state_reach (with_last_version n) c.requires.form.sized, c.loop-k-test.true))
    c.loop-k.invariant c.state_magnitude.ensures c.in_ok-push.ensures.items

pub returns : goal.returns
returns c =
    let n = numbers c.args.c.now in
    c.loop-k.invariant ∙ take_all c.loop-k.k (state_magnitudes n) (omega (arith, length-state_reach (with_last_version n) c.requires.form.sized, c.loop-k-test.false))
