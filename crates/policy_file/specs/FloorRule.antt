-- A record of numbers that have floors: shifts below 2^31.
use Rattle.std.specs.Prelude.{◌^◌, ℤ, pos, ◌≤ℤ◌, ◌<ℤ◌, List}
use Rattle.integer_algebra.specs.Sums.{at}
use Rattle.policy_file.specs.NumberField.{IsNumberField}
use Rattle.policy_file.specs.Records.{RecordRule}

-- from its floor on, below 2^31
pub record IsShiftFrom (floor z : ℤ) : Type 0 where
  pub low : floor ≤ℤ z
  pub high : z <ℤ pos (2 ^ 31)

-- the shift of each field has its own floor
abbrev pub floor_rule : (floors : List ℤ) → RecordRule
floor_rule floors i field z = IsNumberField field z × IsShiftFrom (at floors i) z
