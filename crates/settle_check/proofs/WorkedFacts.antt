-- The worked loop, computed.
use Rattle.std.proofs.Common.{refl}
use Rattle.settle_check.specs.ClosedRows.{row_after}
use Rattle.settle_check.specs.Worked.{WorkedSettling}

pub worked : WorkedSettling
unfolding row_after
worked = record {
  limit = refl;
  first_row = refl;
  second_row = refl;
  below = refl;
  above = refl;
  turn_1 = (refl, refl);
  turn_2 = (refl, refl);
  turn_3 = (refl, refl);
  turn_4 = (refl, refl);
}
