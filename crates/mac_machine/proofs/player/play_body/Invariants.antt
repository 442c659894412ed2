use Rattle.std.proofs.Common.{◌≡◌, ◌+◌, take, length}
use Rattle.mac_machine.specs.Machine.{holding, played, OpsFit}
use Rattle.mac_machine.proofs.player.play_body.Given as goal

abbrev pub invariant-loop-op : goal.invariant-loop-op
invariant-loop-op l = record {
  place : l.place ≡ l.op-index + 1;
  room : OpsFit l.w (take l.op-index l.body) (holding l.acc l.fn.words);
  ends : played (take l.op-index l.body) (holding l.acc l.fn.words) ≡ holding l.sum l.words;
  long : length l.words ≡ length l.fn.words;
}
