use Rattle.std.proofs.Common.{◌≡◌}
use Rattle.plan_lines.specs.Making.{AreRunFrom}
use Rattle.plan_lines.proofs.records.all_run.Given as goal

abbrev pub invariant-loop-i : goal.invariant-loop-i
invariant-loop-i g l = record {
  run : AreRunFrom (g.M.PreparedMachine.makes (g.M.PreparedMachine.subject l.machine)) l.states l.i;
  rows : l.walk.rows ≡ l.states;
  next : l.walk.next ≡ l.i;
}
