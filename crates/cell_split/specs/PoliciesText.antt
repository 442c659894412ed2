-- A text of the policies of all cells, one after the other; for a cell without a controller it has one record, `none`.
use Rattle.std.specs.Prelude.{◌≡◌, ◌≢◌, ◌⊎◌, ℕ, zero, suc, ◌+◌, ◌^◌, ◌<◌, ◌≤◌, Bool, if◌then◌else◌, ℤ, List, [], ◌∷◌, length, get_or, Option, None, Some, codes}
use Rattle.std.specs.Option.{option_len}
use Rattle.std.specs.Str.{bytes_eq}
use Rattle.std.specs.Cmp.Lexicographic.{pointwise}
use Rattle.integer_algebra.specs.Sums.{at}
use Rattle.mat_int.specs.Matrix.{row_of}
use Rattle.number_text.specs.declared.text_fault.TextFault.{TextFault}
use Rattle.number_text.specs.declared.text_fault.TextFault.TheVariants.{Count, Range}
use Rattle.qp_model.specs.problem.Design.{Design, entries}
use Rattle.qp_model.specs.problem.Policy.{Plans}
use Rattle.policy_file.specs.Records.{HoldsNumbers, IsRecordFault, records_of, record_at}
use Rattle.policy_file.specs.PolicyText.{policy_rule, record_length}

-- so many records, from one of them on, hold a plan each
pub record HoldPlans (rows : List (List (List ℕ))) (d : Design) (start number : ℕ) (plans : Plans) : Type 0 where
  pub count : length plans.denominators ≡ number
  pub numerators : length plans.numerators.rows ≡ number
  pub cols : plans.numerators.cols ≡ entries d
  pub each : (e : ℕ) → e < number → HoldsNumbers policy_rule (record_length d) (record_at rows (start + e)) (at plans.denominators e ∷ row_of plans.numerators e)

-- ---- cells
-- the record of a cell without a controller: one field
abbrev pub none_record : List (List ℕ)
none_record = codes "none" ∷ []

abbrev pub says_none : List (List ℕ) → Bool
says_none fields = pointwise bytes_eq fields none_record

-- the record at which cell k begins, both from 0: each cell before it takes one for each corner of a box, or the one that says `none`
unfoldable pub cell_start : List (List (List ℕ)) → Design → ℕ → ℕ
cell_start rows d zero = 0
cell_start rows d (suc k) = cell_start rows d k + (if says_none (record_at rows (cell_start rows d k)) then 1 else 2 ^ d.states)

-- the records from one of them on hold the plans of a cell, one for each corner of a box, or say that it has none
abbrev pub HoldCell : List (List (List ℕ)) → Design → ℕ → Option Plans → Type 0
HoldCell rows d start (Some plans) = HoldPlans rows d start (2 ^ d.states) plans
HoldCell rows d start None = record_at rows start ≡ none_record

-- how many of the first k cells have plans
unfoldable pub covered : List (Option Plans) → ℕ → ℕ
covered policies zero = 0
covered policies (suc k) = covered policies k + option_len (get_or policies k None)

-- the records hold these policies of so many cells, and there are no others
pub record HoldPolicies (rows : List (List (List ℕ))) (d : Design) (cells : ℕ) (policies : List (Option Plans)) : Type 0 where
  pub records : length rows ≡ cell_start rows d cells
  pub count : length policies ≡ cells
  pub each : (k : ℕ) (o : Option Plans) → k < cells → HoldCell rows d (cell_start rows d k) (get_or policies k o)

-- the bytes are the text of these policies of so many cells, of which one at least has plans
pub record ArePolicies (bytes : List ℕ) (d : Design) (cells : ℕ) (policies : List (Option Plans)) : Type 0 where
  pub hold : HoldPolicies (records_of bytes) d cells policies
  pub some : 1 ≤ covered policies cells

-- ---- faults
-- one of the cells begins at record e, and this says that it has no controller
pub record IsNoneOf (rows : List (List (List ℕ))) (d : Design) (cells e : ℕ) : Type 0 where
  pub cell : ℕ
  pub inside : cell < cells
  pub here : e ≡ cell_start rows d cell
  pub says : record_at rows e ≡ none_record

-- record e says so, or holds a plan
abbrev pub IsRight : List (List (List ℕ)) → Design → ℕ → ℕ → Type 0
IsRight rows d cells e = IsNoneOf rows d cells e ⊎ ((zs : List ℤ) × HoldsNumbers policy_rule (record_length d) (record_at rows e) zs)

-- the fault of the first record that does neither
pub record IsPlanFault (rows : List (List (List ℕ))) (d : Design) (cells : ℕ) (fault : TextFault) : Type 0 where
  pub index : ℕ
  pub inside : index < length rows
  pub before : (e : ℕ) → e < index → IsRight rows d cells e
  pub plan : ¬ IsNoneOf rows d cells index
  pub here : IsRecordFault policy_rule (record_length d) (index + 1) (record_at rows index) fault

-- each record is right, and there are so many of them, which isn't what the cells take
pub record IsSpanFault (rows : List (List (List ℕ))) (d : Design) (cells : ℕ) (fault : TextFault) : Type 0 where
  pub each : (e : ℕ) → e < length rows → IsRight rows d cells e
  pub here : length rows ≢ cell_start rows d cells
  pub told : fault ≡ Count (length rows)

-- they hold the policies of all cells, and none of these has plans
pub record IsBareFault (rows : List (List (List ℕ))) (d : Design) (cells : ℕ) (fault : TextFault) : Type 0 where
  pub policies : List (Option Plans)
  pub hold : HoldPolicies rows d cells policies
  pub none : covered policies cells ≡ 0
  pub told : fault ≡ Range 0

-- the bytes are no text of policies of so many cells, and this is their first fault
abbrev pub IsPoliciesFault : List ℕ → Design → (cells : ℕ) → TextFault → Type 0
IsPoliciesFault bytes d cells fault =
    IsPlanFault (records_of bytes) d cells fault ⊎ (IsSpanFault (records_of bytes) d cells fault ⊎ IsBareFault (records_of bytes) d cells fault)
