-- The worked loop, computed.
use Rattle.std.proofs.Common.{refl}
use Rattle.settle_check.specs.ClosedRows.{row_after}
use Rattle.near_check.specs.Worked.{WorkedFar}

pub worked : WorkedFar
unfolding row_after
worked = record {
  slope = refl;
  descent_is = refl;
  more = refl;
  asked = refl;
  asked_before = refl;
  turn_1 = (refl, refl);
  turn_2 = (refl, refl);
  turn_3 = (refl, refl);
  turn_4 = (refl, refl);
  turn_5 = (refl, refl);
}
