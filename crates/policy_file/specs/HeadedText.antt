-- A text of records that begin with a number of their own, a head, before a row of others.
use Rattle.std.specs.Prelude.{◌≡◌, ◌≢◌, ◌⊎◌, ℕ, ◌+◌, ◌<◌, ℤ, List, ◌∷◌, length}
use Rattle.integer_algebra.specs.Sums.{at}
use Rattle.mat_int.specs.Matrix.{Matrix, row_of}
use Rattle.number_text.specs.declared.text_fault.TextFault.{TextFault}
use Rattle.number_text.specs.declared.text_fault.TextFault.TheVariants.{Count}
use Rattle.policy_file.specs.Records.{RecordRule, HoldsNumbers, HoldUpTo, IsRecordsFault, records_of, record_at}

-- the bytes are the text of so many records, and these are their heads and rows
pub record IsHeadedText (rule : RecordRule) (bytes : List ℕ) (width number : ℕ) (heads : List ℤ) (m : Matrix) : Type 0 where
  pub records : length (records_of bytes) ≡ number
  pub count : length heads ≡ number
  pub rows : length m.rows ≡ number
  pub cols : m.cols ≡ width
  pub each : (e : ℕ) → e < number → HoldsNumbers rule (width + 1) (record_at (records_of bytes) e) (at heads e ∷ row_of m e)

-- each record is right, and there are so many of them, which isn't their number
pub record IsNumberFault (rule : RecordRule) (rows : List (List (List ℕ))) (width number : ℕ) (fault : TextFault) : Type 0 where
  pub each : HoldUpTo rule (width + 1) rows (length rows)
  pub here : length rows ≢ number
  pub told : fault ≡ Count (length rows)

-- the bytes are no text of so many records, and this is their first fault: that of the first record that has one, and else the count of records
abbrev pub IsHeadedFault : RecordRule → List ℕ → (width number : ℕ) → TextFault → Type 0
IsHeadedFault rule bytes width number fault = IsRecordsFault rule (width + 1) (records_of bytes) fault ⊎ IsNumberFault rule (records_of bytes) width number fault
