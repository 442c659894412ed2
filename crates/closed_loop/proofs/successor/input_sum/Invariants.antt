use Rattle.std.proofs.Common.{◌≡◌, ◌*ℤ◌}
use Rattle.integer_algebra.specs.Sums.{total, at}
use Rattle.mat_int.specs.Matrix.{entry_of}
use Rattle.closed_loop.proofs.successor.input_sum.Given as goal

abbrev pub invariant-loop-l : goal.invariant-loop-l
invariant-loop-l g l = record {
  end : l.l-end ≡ l.design.inputs;
  sum : l.sum ≡ total l.l (λ j. entry_of l.design.b l.i j *ℤ at ((g.M.ControlMachine.looping l.machine).plan l.state) j);
}
