use Rattle.std.proofs.Common.{refl, arith}
use Rattle.qp_model.specs.machine.Controller.{numbers}
use Rattle.c_writer.proofs.Lists.{second_when, second_never}
use Rattle.c_writer.proofs.opposite.is_second_at.Goals as goal

pub returns-then-k-i : goal.returns-then-k-i
returns-then-k-i c = second_when (numbers c.args.from.now.c.now) c.args.i c.partner_at-k.result c.partner_at.result _ c.partner_at-k.ensures c.partner_at.ensures c.if-k-i.true refl

pub returns-else-k-i : goal.returns-else-k-i
returns-else-k-i c = second_never (numbers c.args.from.now.c.now) c.args.i c.partner_at-k.result c.partner_at-k.ensures (λ l. absurd (omega (arith, l, c.if-k-i.false)))
