use Rattle.std.proofs.Common.{◌≡◌, ℕ, ◌<◌, length}
use Rattle.settle_check.specs.Certificates.{state_box}
use Rattle.settle_check.specs.Beyond.{IsEndWithin}
use Rattle.settle_check.specs.Tubes.{tube_at}
use Rattle.settle_check.proofs.tube.test_turn.Given as goal

abbrev pub invariant-loop-i : goal.invariant-loop-i
invariant-loop-i l = record {
  end : l.i-end ≡ length l.goal.low.items;
  inside : (k : ℕ) → k < l.i → IsEndWithin (state_box l.goal) (tube_at l.tube l.turn) k;
}
