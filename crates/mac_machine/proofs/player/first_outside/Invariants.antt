use Rattle.std.proofs.Common.{◌≡◌, ◌+◌, ◌<◌, ℕ}
use Rattle.mac_listing.specs.Listing.{instructions}
use Rattle.mac_machine.specs.Box.{IsInsideBox}
use Rattle.mac_machine.proofs.player.first_outside.Given as goal

abbrev pub invariant-loop-i : goal.invariant-loop-i
invariant-loop-i l = record {
  place : l.coordinate ≡ l.i + 1;
  inside : (k : ℕ) → k < l.i → IsInsideBox (instructions l.l) l.state k;
}
