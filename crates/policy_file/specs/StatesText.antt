-- A states text: records of as many numbers as there are states.
use Rattle.std.specs.Prelude.{◌≡◌, ℕ, ◌<◌, List, length}
use Rattle.mat_int.specs.Matrix.{Matrix, row_of}
use Rattle.number_text.specs.declared.text_fault.TextFault.{TextFault}
use Rattle.policy_file.specs.NumberField.{IsNumberField}
use Rattle.policy_file.specs.Records.{RecordRule, HoldsNumbers, IsRecordsFault, records_of, record_at}

-- any number is right in each field
abbrev pub state_rule : RecordRule
state_rule i field z = IsNumberField field z

-- the bytes are the text of these states, of n numbers each
pub record IsStatesText (bytes : List ℕ) (n : ℕ) (states : Matrix) : Type 0 where
  pub cols : states.cols ≡ n
  pub rows : length states.rows ≡ length (records_of bytes)
  pub each : (e : ℕ) → e < length (records_of bytes) → HoldsNumbers state_rule n (record_at (records_of bytes) e) (row_of states e)

-- the bytes are no such text, and this is their first fault
abbrev pub IsStatesFault : List ℕ → ℕ → TextFault → Type 0
IsStatesFault bytes n fault = IsRecordsFault state_rule n (records_of bytes) fault
