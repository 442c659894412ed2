-- A record of a face of the box: a factor, and weights.
use Rattle.std.specs.Prelude.{ℕ, ◌^◌, ◌==◌, if◌then◌else◌, ℤ, pos, ◌≤ℤ◌, ◌<ℤ◌}
use Rattle.policy_file.specs.NumberField.{IsNumberField}
use Rattle.policy_file.specs.Records.{RecordRule}

-- a factor in the first field is 1 .. 2^31 - 1, a weight in each other 0 .. 2^31 - 1
pub record IsFaceNumber (i : ℕ) (z : ℤ) : Type 0 where
  pub low : (if i == 0 then pos 1 else pos 0) ≤ℤ z
  pub high : z <ℤ pos (2 ^ 31)

abbrev pub face_rule : RecordRule
face_rule i field z = IsNumberField field z × IsFaceNumber i z
