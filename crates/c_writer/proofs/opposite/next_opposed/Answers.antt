use Rattle.std.proofs.Common.{true, false, ◌∙◌, add-one, arith}
use Rattle.qp_model.specs.machine.Controller.{numbers}
use Rattle.c_writer.proofs.Lists.{opposed_before, opposed_here}
use Rattle.c_writer.proofs.opposite.next_opposed.Goals as goal

pub returns-then-first-n : goal.returns-then-first-n
returns-then-first-n c = opposed_before (numbers c.args.c.now) c.args.i c.args.n c.args.first c.requires.first c.if-first-n.true

pub returns-then-are_rows_opposite : goal.returns-then-are_rows_opposite
returns-then-are_rows_opposite c =
    opposed_here (numbers c.args.c.now) c.args.i c.args.n c.args.first true c.requires.first (λ l. absurd (omega (arith, l, c.if-first-n.false))) c.if-are_rows_opposite.ensures

pub returns-else-are_rows_opposite : goal.returns-else-are_rows_opposite
returns-else-are_rows_opposite c =
    add-one c.args.n ∙ opposed_here (numbers c.args.c.now) c.args.i c.args.n c.args.first false c.requires.first (λ l. absurd (omega (arith, l, c.if-first-n.false))) c.if-are_rows_opposite.ensures
