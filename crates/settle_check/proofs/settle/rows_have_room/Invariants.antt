use Rattle.std.proofs.Common.{◌≡◌, ℕ, ◌<◌, ◌≤◌, ◌^◌}
use Rattle.qp_model.specs.machine.Controller.{numbers}
use Rattle.settle_check.specs.StillSize.{still_size}
use Rattle.settle_check.specs.Certificates.{state_box}
use Rattle.settle_check.proofs.settle.rows_have_room.Given as goal

abbrev pub invariant-loop-i : goal.invariant-loop-i
invariant-loop-i l = record {
  end : l.i-end ≡ l.c.m;
  room : (k : ℕ) → k < l.i → still_size (numbers l.c) (state_box l.still) k ≤ 2 ^ 126;
}
