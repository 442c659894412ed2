use Rattle.std.proofs.Common.{refl, arith}
use Rattle.mat_int.specs.Matrix.{entry_of}
use Rattle.closed_loop.proofs.Showing.{added, past_entry, unadded}
use Rattle.closed_loop.proofs.successor.shift_state.Goals as goal

pub returns-else-turn-rows : goal.returns-else-turn-rows
returns-else-turn-rows c = record {
  shifted = added c.args.state.now c.args.state.now (entry_of c.args.shifts.now.rows c.args.turn) refl
      (λ j l. unadded _ _ (past_entry c.args.shifts.now.rows c.args.turn j (omega (arith, c.rows.ensures, c.if-turn-rows.false))));
  next = λ l. absurd (omega (arith, l, c.rows.ensures, c.if-turn-rows.false));
  rows = refl;
}
