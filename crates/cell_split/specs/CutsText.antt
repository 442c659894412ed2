-- A cuts text: for each coordinate a record of the number of its cuts, and then the cuts.
use Rattle.std.specs.Prelude.{◌≡◌, ◌≢◌, ◌⊎◌, ℕ, ◌+◌, ◌<◌, ◌≤◌, ℤ, pos, List, length}
use Rattle.integer_algebra.specs.Sums.{at}
use Rattle.number_text.specs.declared.text_fault.TextFault.{TextFault}
use Rattle.number_text.specs.declared.text_fault.TextFault.TheVariants.{Range, Fields, Number, Count}
use Rattle.qp_model.specs.problem.Design.{Design}
use Rattle.policy_file.specs.NumberField.{IsNumberField}
use Rattle.policy_file.specs.Records.{records_of, record_at, field_of}
use Rattle.cell_split.specs.Cuts.{IsCut}
use Rattle.cell_split.specs.Cells.{cuts_of, cell_count}

-- the first field of a record holds a number of cuts
pub record IsCutCount (fields : List (List ℕ)) (n : ℕ) : Type 0 where
  pub number : IsNumberField (field_of fields 0) (pos n)
  pub few : n ≤ 63

-- field k + 1 of a record holds cut k, which is right behind those before it
pub record HoldsCut (lo hi : ℤ) (fields : List (List ℕ)) (cuts : List ℤ) (k : ℕ) (cut : ℤ) : Type 0 where
  pub number : IsNumberField (field_of fields (k + 1)) cut
  pub right : IsCut lo hi cuts k cut

-- a record holds these cuts of a coordinate from lo to hi
pub record HoldsCuts (lo hi : ℤ) (fields : List (List ℕ)) (cuts : List ℤ) : Type 0 where
  pub count : IsCutCount fields (length cuts)
  pub width : length fields ≡ length cuts + 1
  pub each : (k : ℕ) → k < length cuts → HoldsCut lo hi fields cuts k (at cuts k)

-- ---- the faults of a record, which is entry number e of the text, from 1
-- it has no number of cuts
pub record IsCountless (e : ℕ) (fields : List (List ℕ)) (fault : TextFault) : Type 0 where
  pub none : (n : ℕ) → IsCutCount fields n → ⊥
  pub told : fault ≡ Number e 1

-- it has another count of fields than its number of cuts and one more
pub record IsMisfit (e : ℕ) (fields : List (List ℕ)) (fault : TextFault) : Type 0 where
  pub count : ℕ
  pub counted : IsCutCount fields count
  pub here : length fields ≢ count + 1
  pub told : fault ≡ Fields e

-- behind these cuts, which are right, there is one that is no number or out of order
pub record IsDisorder (lo hi : ℤ) (e : ℕ) (fields : List (List ℕ)) (fault : TextFault) : Type 0 where
  pub count : ℕ
  pub counted : IsCutCount fields count
  pub width : length fields ≡ count + 1
  pub cuts : List ℤ
  pub inside : length cuts < count
  pub before : (k : ℕ) → k < length cuts → HoldsCut lo hi fields cuts k (at cuts k)
  pub here : (cut : ℤ) → HoldsCut lo hi fields cuts (length cuts) cut → ⊥
  pub told : fault ≡ Number e (length cuts + 2)

abbrev pub IsCutsFault : ℤ → ℤ → ℕ → List (List ℕ) → TextFault → Type 0
IsCutsFault lo hi e fields fault = IsCountless e fields fault ⊎ (IsMisfit e fields fault ⊎ IsDisorder lo hi e fields fault)

-- ---- the records of a text, for the coordinates of a design in their order
abbrev pub HoldsCoordinate : Design → List (List (List ℕ)) → ℕ → List ℤ → Type 0
HoldsCoordinate d rows i cuts = HoldsCuts (d.low i) (d.high i) (record_at rows i) cuts

-- the fault of the first that has one
pub record IsCutRecordFault (d : Design) (rows : List (List (List ℕ))) (fault : TextFault) : Type 0 where
  pub index : ℕ
  pub asked : index < d.states
  pub inside : index < length rows
  pub before : (i : ℕ) → i < index → (cuts : List ℤ) × HoldsCoordinate d rows i cuts
  pub here : IsCutsFault (d.low index) (d.high index) (index + 1) (record_at rows index) fault

-- each that a coordinate asks for is right, and there are so many in all, which isn't one for each coordinate
pub record IsCutCountFault (d : Design) (rows : List (List (List ℕ))) (fault : TextFault) : Type 0 where
  pub each : (i : ℕ) → i < d.states → i < length rows → (cuts : List ℤ) × HoldsCoordinate d rows i cuts
  pub here : length rows ≢ d.states
  pub told : fault ≡ Count (length rows)

-- they are right, one for each coordinate, and hold these lists of cuts
pub record HoldLists (d : Design) (rows : List (List (List ℕ))) (lists : List (List ℤ)) : Type 0 where
  pub records : length rows ≡ d.states
  pub count : length lists ≡ d.states
  pub each : (i : ℕ) → i < d.states → HoldsCoordinate d rows i (cuts_of lists i)

-- and make too many cells
pub record IsCellsFault (d : Design) (rows : List (List (List ℕ))) (fault : TextFault) : Type 0 where
  pub lists : List (List ℤ)
  pub hold : HoldLists d rows lists
  pub many : 64 < cell_count lists
  pub told : fault ≡ Range 0

-- ---- the bytes are the text of these cuts of the design's box
pub record IsCutsText (bytes : List ℕ) (d : Design) (lists : List (List ℤ)) : Type 0 where
  pub hold : HoldLists d (records_of bytes) lists
  pub few : cell_count lists ≤ 64

-- they are no such text, and this is their first fault
abbrev pub IsCutsTextFault : List ℕ → Design → TextFault → Type 0
IsCutsTextFault bytes d fault = IsCutRecordFault d (records_of bytes) fault ⊎ (IsCutCountFault d (records_of bytes) fault ⊎ IsCellsFault d (records_of bytes) fault)
