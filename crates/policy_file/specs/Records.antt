-- Records of numbers: what they hold, and their first fault.
use Rattle.std.specs.Prelude.{◌≡◌, ◌≢◌, ℕ, ◌+◌, ◌-◌, ◌≤◌, ◌<◌, ℤ, List, [], length, get_or, sum_by}
use Rattle.csv.specs.Reading.{default_config, strip_bom, records}
use Rattle.integer_algebra.specs.Sums.{at}
use Rattle.mat_int.specs.Matrix.{Matrix, row_of}
use Rattle.number_text.specs.declared.text_fault.TextFault.{TextFault}
use Rattle.number_text.specs.declared.text_fault.TextFault.TheVariants.{NotToml, Key, Shape, Range, Fields, Number, Count, Memory}

-- the records of a text, as `csv` reads it: commas and double quotes, no header, records of any length, no byte order mark
abbrev pub records_of : List ℕ → List (List (List ℕ))
records_of bytes = records default_config (strip_bom bytes)

-- record e, and field i of a record, both from 0
abbrev pub record_at : List (List (List ℕ)) → ℕ → List (List ℕ)
record_at rows e = get_or rows e []

abbrev pub field_of : List (List ℕ) → ℕ → List ℕ
field_of fields i = get_or fields i []

-- a rule says of field i of a record, from 0, whether its bytes hold a number that is right there
abbrev pub RecordRule : Type 1
RecordRule = ℕ → List ℕ → ℤ → Type 0

-- a record of so many fields holds these numbers
pub record HoldsNumbers (rule : RecordRule) (count : ℕ) (fields : List (List ℕ)) (zs : List ℤ) : Type 0 where
  pub width : length fields ≡ count
  pub numbers : length zs ≡ count
  pub each : (i : ℕ) → i < count → rule i (field_of fields i) (at zs i)

-- field number f of a record, from 1, is its first that is wrong
pub record IsFirstWrong (rule : RecordRule) (count : ℕ) (fields : List (List ℕ)) (f : ℕ) : Type 0 where
  pub low : 1 ≤ f
  pub high : f ≤ count
  pub before : (i : ℕ) → i + 1 < f → (z : ℤ) × rule i (field_of fields i) z
  pub here : (z : ℤ) → rule (f - 1) (field_of fields (f - 1)) z → ⊥

-- the fault of a record, which is entry number e of the text, from 1: its count of fields, and else its first wrong field
abbrev pub IsRecordFault : RecordRule → ℕ → ℕ → List (List ℕ) → TextFault → Type 0
IsRecordFault rule count e fields (Fields entry) = (entry ≡ e) × (length fields ≢ count)
IsRecordFault rule count e fields (Number entry field) = (entry ≡ e) × (length fields ≡ count) × IsFirstWrong rule count fields field
IsRecordFault rule count e fields (Count entries) = ⊥
IsRecordFault rule count e fields NotToml = ⊥
IsRecordFault rule count e fields (Key place) = ⊥
IsRecordFault rule count e fields (Shape place) = ⊥
IsRecordFault rule count e fields (Range place) = ⊥
IsRecordFault rule count e fields Memory = ⊥

-- the first `known` records hold numbers
abbrev pub HoldUpTo : RecordRule → ℕ → List (List (List ℕ)) → ℕ → Type 0
HoldUpTo rule count rows known = (e : ℕ) → e < known → (zs : List ℤ) × HoldsNumbers rule count (record_at rows e) zs

-- the fault of the first record that has one
pub record IsRecordsFault (rule : RecordRule) (count : ℕ) (rows : List (List (List ℕ))) (fault : TextFault) : Type 0 where
  pub index : ℕ
  pub inside : index < length rows
  pub before : HoldUpTo rule count rows index
  pub here : IsRecordFault rule count (index + 1) (record_at rows index) fault

-- a matrix has a row for each record of the bytes, of the numbers that it holds
pub record IsRowsText (rule : RecordRule) (width : ℕ) (bytes : List ℕ) (m : Matrix) : Type 0 where
  pub cols : m.cols ≡ width
  pub rows : length m.rows ≡ length (records_of bytes)
  pub each : (e : ℕ) → e < length (records_of bytes) → HoldsNumbers rule width (record_at (records_of bytes) e) (row_of m e)

-- how many bytes of a text a record takes at least: those of its fields, and one more between two
abbrev pub field_room : List (List ℕ) → ℕ
field_room fields = sum_by (λ f. length f + 1) fields
