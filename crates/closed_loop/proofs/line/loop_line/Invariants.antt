use Rattle.std.proofs.Common.{◌≡◌, ◌∷◌, ◌++◌, map, pos}
use Rattle.std.specs.List.{range_with_len}
use Rattle.integer_algebra.specs.Sums.{at}
use Rattle.closed_loop.specs.Looping.{denominator_by}
use Rattle.closed_loop.proofs.line.loop_line.Given as goal

abbrev pub invariant-loop-l : goal.invariant-loop-l
invariant-loop-l g l = record {
  end : l.l-end ≡ (g.M.ControlMachine.looping l.machine).controller.inputs;
  numbers : l.numbers.items ≡ pos l.entry ∷ pos l.turn ∷ l.state ++ pos (denominator_by (g.M.ControlMachine.looping l.machine)) ∷ map (at ((g.M.ControlMachine.looping l.machine).plan l.state)) (range_with_len 0 l.l);
}
