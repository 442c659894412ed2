use Rattle.std.proofs.Common.{arith}
use Rattle.qp_model.specs.machine.Controller.{numbers}
use Rattle.c_writer.proofs.Lists.{first_when, first_never}
use Rattle.c_writer.proofs.opposite.is_first_at.Goals as goal

pub returns-then-k-len : goal.returns-then-k-len
returns-then-k-len c =
    first_when (numbers c.args.from.now.c.now) c.args.i c.partner_at-k.result c.partner_at.result c.is_below.result c.partner_at-k.ensures c.partner_at.ensures
    (omega (arith, c.if-k-len.true, c.len.ensures)) c.is_below.ensures

pub returns-else-k-len : goal.returns-else-k-len
returns-else-k-len c =
    first_never (numbers c.args.from.now.c.now) c.args.i c.partner_at-k.result c.partner_at-k.ensures (λ l. absurd (omega (arith, l, c.if-k-len.false, c.len.ensures)))
