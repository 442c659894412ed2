use Rattle.std.proofs.Common.{◌≡◌, ℕ, ◌<◌, ◌≤◌, ◌^◌, get_or, pos, unsigned_abs}
use Rattle.integer_algebra.specs.Division.{round_of, IsNearest}
use Rattle.qp_model.specs.problem.Parts.{design_of}
use Rattle.closed_loop.specs.Looping.{next_sum_by, next_over_by}
use Rattle.closed_loop.proofs.successor.next_state.Given as goal

abbrev pub invariant-loop-i : goal.invariant-loop-i
invariant-loop-i g l = record {
  value : (j : ℕ) → j < l.i → get_or l.next j (pos 0) ≡ round_of (next_sum_by (design_of l.parts) (g.M.ControlMachine.looping l.machine) l.state j) (next_over_by (design_of l.parts) (g.M.ControlMachine.looping l.machine));
  nearest : (j : ℕ) → j < l.i → IsNearest (next_sum_by (design_of l.parts) (g.M.ControlMachine.looping l.machine) l.state j) (next_over_by (design_of l.parts) (g.M.ControlMachine.looping l.machine))
      (round_of (next_sum_by (design_of l.parts) (g.M.ControlMachine.looping l.machine) l.state j) (next_over_by (design_of l.parts) (g.M.ControlMachine.looping l.machine)));
  small : (j : ℕ) → j < l.i → unsigned_abs (round_of (next_sum_by (design_of l.parts) (g.M.ControlMachine.looping l.machine) l.state j) (next_over_by (design_of l.parts) (g.M.ControlMachine.looping l.machine))) ≤ 2 ^ 126;
}
