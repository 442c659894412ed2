use Rattle.std.proofs.Common.{◌≡◌, ◌*◌, ◌^◌, ◌≤◌, unsigned_abs}
use Rattle.integer_algebra.specs.Sizes.{amount}
use Rattle.mat_int.specs.Matrix.{entry_of}
use Rattle.qp_model.specs.machine.Controller.{numbers}
use Rattle.qp_model.specs.machine.LoopSize.{coordinate_magnitude}
use Rattle.closed_loop.proofs.size.state_absolute_sum.Given as goal

abbrev pub invariant-loop-j : goal.invariant-loop-j
invariant-loop-j l = record {
  end : l.j-end ≡ l.design.states;
  sum : l.sum ≡ amount l.j (λ j. unsigned_abs (entry_of l.design.a l.i j) * coordinate_magnitude (numbers l.c) j);
  small : l.sum ≤ 2 ^ 62 * l.j;
}
