use Rattle.std.proofs.Common.{◌≡◌, ◌<◌, ◌≤◌, ◌^◌, ◌++◌, option_map}
use Rattle.qp_model.specs.problem.Parts.{design_of}
use Rattle.closed_loop.specs.Looping.{turn_size_by}
use Rattle.command_loop.specs.Loop.{AllStay, course_by, record_lines}
use Rattle.command_loop.specs.Printing.{rows_along}
use Rattle.command_loop.proofs.records.print_records.Given as goal

abbrev pub invariant-loop-i : goal.invariant-loop-i
invariant-loop-i g l = record {
  rows : l.walk.rows ≡ l.states;
  next : l.walk.next ≡ l.i;
  shifts : rows_along l.shifts ≡ rows_along l.fn.shifts;
  same : g.M.ControlMachine.looping l.machine ≡ g.M.ControlMachine.looping l.fn.machine;
  narrow : 0 < l.i → turn_size_by (design_of l.design) (g.M.ControlMachine.looping l.fn.machine) ≤ 2 ^ 126;
  stays : AllStay (g.M.ControlMachine.looping l.fn.machine).controller (course_by (design_of l.design) (g.M.ControlMachine.looping l.fn.machine) (rows_along l.fn.shifts)) l.states l.turns l.i;
  got : g.O.Sink.got l.out ≡ option_map (λ old. old ++ record_lines (course_by (design_of l.design) (g.M.ControlMachine.looping l.fn.machine) (rows_along l.fn.shifts)) l.states l.turns l.i) (g.O.Sink.got l.fn.out);
  first : l.i ≡ 0 → l.out ≡ l.fn.out;
  faults : g.O.Sink.faults l.fn.out ≤ g.O.Sink.faults l.out;
}
