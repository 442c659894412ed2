-- The cells of a text that were read one after the other.
use Rattle.std.specs.Prelude.{◌≡◌, ◌⊎◌, ℕ, ◌+◌, ◌<◌, ◌≤◌, ◌^◌, false, if◌then◌else◌, ℤ, List, All, length, get_or, Option}
use Rattle.csv.specs.Records.{Row, fields_of}
use Rattle.number_text.specs.declared.text_fault.TextFault.{TextFault}
use Rattle.number_text.specs.declared.text_fault.TextFault.TheVariants.{Count}
use Rattle.qp_model.specs.problem.Design.{Design}
use Rattle.qp_model.specs.problem.Policy.{Plans}
use Rattle.policy_file.specs.Records.{HoldsNumbers, IsRecordFault, record_at, field_room}
use Rattle.policy_file.specs.PolicyText.{policy_rule, record_length}
use Rattle.cell_split.specs.PoliciesText.{says_none, cell_start, HoldCell}

-- records of a text: their count and what each takes fit
pub record AreReadable (records : List Row) : Type 0 where
  pub few : length records < 2 ^ 32
  pub room : All (λ r. field_room (fields_of r) ≤ 2 ^ 32) records

-- each record from one of them on, and before another, holds a plan
abbrev pub HoldBetween : List (List (List ℕ)) → Design → (start end : ℕ) → Type 0
HoldBetween rows d start end = (e : ℕ) → start ≤ e → e < end → (zs : List ℤ) × HoldsNumbers policy_rule (record_length d) (record_at rows e) zs

-- the fault of the first of so many records, from one of them on, that holds none
pub record IsFaultBetween (rows : List (List (List ℕ))) (d : Design) (start number : ℕ) (fault : TextFault) : Type 0 where
  pub index : ℕ
  pub low : start ≤ index
  pub high : index < start + number
  pub inside : index < length rows
  pub before : HoldBetween rows d start index
  pub here : IsRecordFault policy_rule (record_length d) (index + 1) (record_at rows index) fault

-- each record from one of them on holds a plan, and the fault tells how many records there are
pub record IsCounted (rows : List (List (List ℕ))) (d : Design) (start : ℕ) (fault : TextFault) : Type 0 where
  pub each : HoldBetween rows d start (length rows)
  pub told : fault ≡ Count (length rows)

-- of the records from one of them on one holds no plan, or there are too few or too many
abbrev pub IsLeftFault : List (List (List ℕ)) → Design → (start : ℕ) → TextFault → Type 0
IsLeftFault rows d start fault = IsFaultBetween rows d start (length rows) fault ⊎ IsCounted rows d start fault

-- ---- one cell
-- it begins at a record, has these plans or none, and ends before another
pub record IsCellAt (rows : List (List (List ℕ))) (d : Design) (start : ℕ) (policy : Option Plans) (end : ℕ) : Type 0 where
  pub hold : HoldCell rows d start policy
  pub next : end ≡ start + (if says_none (record_at rows start) then 1 else 2 ^ d.states)
  pub inside : end ≤ length rows

-- a cell that begins at a record has plans, and one of their records is wrong, or there are too few
pub record IsCellFault (rows : List (List (List ℕ))) (d : Design) (start : ℕ) (fault : TextFault) : Type 0 where
  pub plain : says_none (record_at rows start) ≡ false
  pub why : IsFaultBetween rows d start (2 ^ d.states) fault ⊎ (IsLeftFault rows d start fault × (length rows < start + 2 ^ d.states))

-- ---- the first cells
-- these are their policies, and the next begins at this record
pub record HoldCells (rows : List (List (List ℕ))) (d : Design) (cells : ℕ) (policies : List (Option Plans)) (end : ℕ) : Type 0 where
  pub count : length policies ≡ cells
  pub end_is : end ≡ cell_start rows d cells
  pub inside : end ≤ length rows
  pub each : (k : ℕ) (o : Option Plans) → k < cells → HoldCell rows d (cell_start rows d k) (get_or policies k o)
