use Rattle.std.proofs.Common.{◌≡◌, ℕ, ◌<◌, length}
use Rattle.settle_check.specs.Still.{IsPartOf}
use Rattle.settle_check.specs.Certificates.{certificate_of}
use Rattle.settle_check.specs.Beyond.{goal_at}
use Rattle.settle_check.specs.Tubes.{tube_at}
use Rattle.settle_check.proofs.tube.test_turns.Given as goal

abbrev pub invariant-loop-turn : goal.invariant-loop-turn
invariant-loop-turn l = record {
  end : l.turn-end ≡ l.tube.lows.cols;
  inside : (t : ℕ) → t < l.turn → IsPartOf (length l.certificate.still.low.items) (goal_at (certificate_of l.certificate) l.turns t) (tube_at l.tube t);
}
