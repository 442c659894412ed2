use Rattle.std.proofs.Common.{◌≡◌, ◌≤◌}
use Rattle.plan_lines.proofs.LineByLine.{PrintedUpTo}
use Rattle.plan_lines.proofs.records.print_lines.Given as goal

abbrev pub invariant-loop-i : goal.invariant-loop-i
invariant-loop-i g l = record {
  rows : l.walk.rows ≡ l.states;
  next : l.walk.next ≡ l.i;
  subject : g.M.PreparedMachine.subject l.machine ≡ g.M.PreparedMachine.subject l.fn.machine;
  size : g.M.PreparedMachine.is_for l.machine l.states.cols;
  printed : PrintedUpTo (g.M.PreparedMachine.makes (g.M.PreparedMachine.subject l.fn.machine)).line l.states l.i (g.O.Sink.got l.fn.out) (g.O.Sink.got l.out);
  first : l.i ≡ 0 → l.out ≡ l.fn.out;
  faults : g.O.Sink.faults l.fn.out ≤ g.O.Sink.faults l.out;
}
