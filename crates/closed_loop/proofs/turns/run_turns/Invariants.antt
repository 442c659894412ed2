use Rattle.std.proofs.Common.{◌≡◌, ◌<◌, ◌≤◌, ◌++◌, length, option_map}
use Rattle.qp_model.specs.problem.Parts.{design_of}
use Rattle.closed_loop.specs.Answers.{LieInside}
use Rattle.closed_loop.specs.Under.{states_by, lines_by}
use Rattle.closed_loop.proofs.turns.run_turns.Given as goal

abbrev pub invariant-loop-gone : goal.invariant-loop-gone
invariant-loop-gone g l = record {
  state : l.state.items ≡ states_by (design_of l.design) (g.M.ControlMachine.looping l.fn.machine) l.start l.fn.shifts.rows l.gone;
  next : length l.next.items ≡ (g.M.ControlMachine.looping l.fn.machine).controller.states;
  long : length l.state.items ≡ (g.M.ControlMachine.looping l.fn.machine).controller.states;
  inside : LieInside (g.M.ControlMachine.looping l.fn.machine).controller (states_by (design_of l.design) (g.M.ControlMachine.looping l.fn.machine) l.start l.fn.shifts.rows) l.gone;
  put : g.O.Sink.got l.out ≡ option_map (λ old. old ++ lines_by (design_of l.design) (g.M.ControlMachine.looping l.fn.machine) l.entry l.start l.fn.shifts.rows l.gone) (g.O.Sink.got l.fn.out);
  first : l.gone ≡ 0 → l.out ≡ l.fn.out;
  no_fewer : g.O.Sink.faults l.fn.out ≤ g.O.Sink.faults l.out;
  shifts : l.shifts.rows ≡ l.fn.shifts.rows;
  place : l.gone < length l.fn.shifts.rows.rows → l.shifts.next ≡ l.gone;
  same : g.M.ControlMachine.looping l.machine ≡ g.M.ControlMachine.looping l.fn.machine;
}
