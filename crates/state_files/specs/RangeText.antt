-- A text of the range of the shifts of a state: a record of the least, then one of the greatest.
use Rattle.std.specs.Prelude.{◌≡◌, ◌≢◌, ◌⊎◌, ℕ, ◌+◌, ◌<◌, ℤ, ◌≤ℤ◌, List, length, ◌==◌, if◌then◌else◌}
use Rattle.integer_algebra.specs.Sums.{at}
use Rattle.mat_int.specs.Matrix.{Matrix, row_of}
use Rattle.number_text.specs.declared.text_fault.TextFault.{TextFault}
use Rattle.number_text.specs.declared.text_fault.TextFault.TheVariants.{Count}
use Rattle.qp_model.specs.problem.Parts.{IsNumeratorList}
use Rattle.policy_file.specs.Records.{HoldsNumbers, IsRecordFault, records_of, record_at}
use Rattle.policy_file.specs.FloorRule.{floor_rule}
use Rattle.state_files.specs.ShiftRule.{least_shifts}

-- the floors of record e, from 0, of n shifts: the greatest are not below the least
abbrev pub range_floors : (n : ℕ) → (least : List ℤ) → ℕ → List ℤ
range_floors n least e = if e == 1 then least else least_shifts n

-- the bytes are the text of this range
pub record IsRangeText (bytes : List ℕ) (n : ℕ) (range : Matrix) : Type 0 where
  pub records : length (records_of bytes) ≡ 2
  pub rows : length range.rows ≡ 2
  pub cols : range.cols ≡ n
  pub each : (e : ℕ) → e < 2 → HoldsNumbers (floor_rule (range_floors n (row_of range 0) e)) n (record_at (records_of bytes) e) (row_of range e)

-- record e holds these numbers, where the first holds the least
pub record HoldsShifts (rows : List (List (List ℕ))) (n : ℕ) (least : List ℤ) (e : ℕ) (zs : List ℤ) : Type 0 where
  pub holds : HoldsNumbers (floor_rule (range_floors n least e)) n (record_at rows e) zs
  pub first : e ≡ 0 → zs ≡ least

-- the first record that has a fault; where it isn't the first, that one holds the least
pub record IsRangeRecordFault (rows : List (List (List ℕ))) (n : ℕ) (fault : TextFault) : Type 0 where
  pub least : List ℤ
  pub index : ℕ
  pub inside : index < length rows
  pub before : (e : ℕ) → e < index → (zs : List ℤ) × HoldsShifts rows n least e zs
  pub here : IsRecordFault (floor_rule (range_floors n least index)) n (index + 1) (record_at rows index) fault

-- each record is right, and there aren't two
pub record IsRangeCountFault (rows : List (List (List ℕ))) (n : ℕ) (fault : TextFault) : Type 0 where
  pub least : List ℤ
  pub each : (e : ℕ) → e < length rows → (zs : List ℤ) × HoldsShifts rows n least e zs
  pub here : length rows ≢ 2
  pub told : fault ≡ Count (length rows)

-- the bytes are no such text, and this is their first fault
abbrev pub IsRangeFault : List ℕ → ℕ → TextFault → Type 0
IsRangeFault bytes n fault = IsRangeRecordFault (records_of bytes) n fault ⊎ IsRangeCountFault (records_of bytes) n fault

-- ---- the range itself: the least and the greatest of n shifts, below 2^31 in absolute value
pub record IsShiftRange (n : ℕ) (range : Matrix) : Type 0 where
  pub rows : length range.rows ≡ 2
  pub low : IsNumeratorList (row_of range 0) n
  pub high : IsNumeratorList (row_of range 1) n
  pub ordered : (i : ℕ) → i < n → at (row_of range 0) i ≤ℤ at (row_of range 1) i
