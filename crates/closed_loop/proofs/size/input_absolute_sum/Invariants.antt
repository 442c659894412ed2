use Rattle.std.proofs.Common.{◌≡◌, ◌*◌, ◌^◌, ◌≤◌, unsigned_abs}
use Rattle.integer_algebra.specs.Sizes.{amount}
use Rattle.mat_int.specs.Matrix.{entry_of}
use Rattle.closed_loop.proofs.size.input_absolute_sum.Given as goal

abbrev pub invariant-loop-l : goal.invariant-loop-l
invariant-loop-l g l = record {
  end : l.l-end ≡ l.design.inputs;
  sum : l.sum ≡ amount l.l (λ k. unsigned_abs (entry_of l.design.b l.i k) * ((g.M.ControlMachine.looping l.machine).weight * (g.M.ControlMachine.looping l.machine).magnitude k));
  room : l.sum ≤ 2 ^ 126;
}
