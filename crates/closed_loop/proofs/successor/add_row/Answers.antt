use Rattle.std.proofs.Common.{arith}
use Rattle.closed_loop.proofs.Showing.{added}
use Rattle.closed_loop.proofs.successor.add_row.Goals as goal

pub returns : goal.returns
returns c = added c.args.state.now c.loop-i.state _ c.loop-i.invariant.long (λ j l. c.loop-i.invariant.before j (omega (arith, l, c.loop-i.invariant.long)))
