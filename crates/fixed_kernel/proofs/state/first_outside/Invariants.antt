use Rattle.std.proofs.Common.{◌≡◌, ◌+◌, ◌<◌, ℕ}
use Rattle.qp_model.specs.machine.Controller.{numbers}
use Rattle.qp_model.specs.machine.Machine.{IsInside}
use Rattle.fixed_kernel.proofs.state.first_outside.Given as goal

abbrev pub invariant-loop-i : goal.invariant-loop-i
invariant-loop-i l = record {
  place : l.coordinate ≡ l.i + 1;
  inside : (k : ℕ) → k < l.i → IsInside (numbers l.c) l.state k;
}
