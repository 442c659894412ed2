use Rattle.std.proofs.Common.{arith}
use Rattle.qp_model.specs.machine.Controller.{numbers}
use Rattle.c_writer.proofs.Lists.{opposed_none, opposed_suc, opposed_all}
use Rattle.c_writer.proofs.opposite.partner_of.Goals as goal

pub loop-n-init : goal.loop-n-init
loop-n-init c = opposed_none (numbers c.args.c.now) c.args.i

pub loop-n-preserved : goal.loop-n-preserved
loop-n-preserved c = opposed_suc (numbers c.args.c.now) c.args.i c.loop-n.n c.next_opposed-first.result c.next_opposed-first.ensures

pub returns : goal.returns
returns c =
    opposed_all (numbers c.args.c.now) c.args.i c.loop-n.n c.loop-n.first c.loop-n.invariant (omega (arith, c.loop-n-test.false, c.loop-n.auto.n-end, c.len-n-end.ensures))
