use Rattle.std.proofs.Common.{◌≡◌, ◌<◌, ◌^◌, ℕ, pos, ◌*ℤ◌, length}
use Rattle.integer_algebra.specs.Sums.{at}
use Rattle.qp_model.specs.machine.ValuesMet.{FitsWidth}
use Rattle.mac_machine.proofs.player.put_inputs.Given as goal

abbrev pub invariant-loop-i : goal.invariant-loop-i
invariant-loop-i l = record {
  words : (k : ℕ) → k < l.i → at l.words k ≡ at l.state k *ℤ pos (2 ^ l.l.shift);
  room : (k : ℕ) → k < l.i → FitsWidth l.l.word (at l.state k *ℤ pos (2 ^ l.l.shift));
  long : length l.words ≡ length l.fn.words;
}
