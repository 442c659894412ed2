use Rattle.std.proofs.Common.{◌≡◌, ◌^◌, ◌≤◌}
use Rattle.qp_model.specs.problem.Parts.{design_of}
use Rattle.qp_model.specs.form.Quantities.{greatest}
use Rattle.closed_loop.specs.Looping.{turn_absolute_sum_by}
use Rattle.closed_loop.proofs.size.greatest_turn_sum.Given as goal

abbrev pub invariant-loop-i : goal.invariant-loop-i
invariant-loop-i g l = record {
  end : l.i-end ≡ l.design.states;
  most : l.most ≡ greatest l.i (turn_absolute_sum_by (design_of l.design) (g.M.ControlMachine.looping l.machine));
  room : l.most ≤ 2 ^ 126;
}
