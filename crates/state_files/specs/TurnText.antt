-- A text of shifts turn by turn: a record of the shifts of a state for each turn.
use Rattle.std.specs.Prelude.{◌≡◌, ◌≢◌, ◌⊎◌, ℕ, ◌<◌, List, length}
use Rattle.mat_int.specs.Matrix.{Matrix, row_of}
use Rattle.number_text.specs.declared.text_fault.TextFault.{TextFault}
use Rattle.number_text.specs.declared.text_fault.TextFault.TheVariants.{Count}
use Rattle.policy_file.specs.Records.{RecordRule, HoldsNumbers, HoldUpTo, IsRecordsFault, records_of, record_at}
use Rattle.policy_file.specs.FloorRule.{floor_rule}
use Rattle.state_files.specs.ShiftRule.{least_shifts}

-- each field of n holds a shift, at most 2147483647 in absolute value
abbrev pub turn_rule : ℕ → RecordRule
turn_rule n = floor_rule (least_shifts n)

-- the bytes are the text of these shifts, of n numbers for each of so many turns
pub record IsShiftsText (bytes : List ℕ) (n turns : ℕ) (shifts : Matrix) : Type 0 where
  pub records : length (records_of bytes) ≡ turns
  pub rows : length shifts.rows ≡ turns
  pub cols : shifts.cols ≡ n
  pub each : (e : ℕ) → e < turns → HoldsNumbers (turn_rule n) n (record_at (records_of bytes) e) (row_of shifts e)

-- each record is right, and there aren't so many as turns
pub record IsTurnCountFault (rows : List (List (List ℕ))) (n turns : ℕ) (fault : TextFault) : Type 0 where
  pub each : HoldUpTo (turn_rule n) n rows (length rows)
  pub here : length rows ≢ turns
  pub told : fault ≡ Count (length rows)

-- the bytes are no such text, and this is their first fault: that of the first record that has one, and else the count of records
abbrev pub IsShiftsFault : List ℕ → (n turns : ℕ) → TextFault → Type 0
IsShiftsFault bytes n turns fault = IsRecordsFault (turn_rule n) n (records_of bytes) fault ⊎ IsTurnCountFault (records_of bytes) n turns fault
