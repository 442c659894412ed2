-- A range of shifts record by record: what its text holds, and that it is right in one way.
use Rattle.std.proofs.Common.{◌≡◌, ◌≢◌, ◌⊎◌, ℕ, zero, suc, ◌+◌, ◌<◌, ◌≤◌, ◌^◌, ℤ, pos, negsuc, ◌≤ℤ◌, ◌<ℤ◌, List, [], ◌∷◌, ◌++◌, length, map, Result, Ok, Err, refl, sym, ap, ◌∙◌, arith, inl, inr}
use Rattle.std.specs.Prelude.{IfOk, IfErr, MatchResult}
use Rattle.std.proofs.lemmas.Bool.{cases_lt}
use Rattle.std.proofs.lemmas.Int.{ints}
use Rattle.std.proofs.lemmas.List.{get_or_append_left, get_or_push, get_or_default, get_or-replicate, length_push}
use Rattle.integer_algebra.specs.Sums.{at}
use Rattle.csv.specs.Records.{Row, fields_of}
use Rattle.mat_int.specs.Matrix.{Matrix, row_of}
use Rattle.number_text.specs.declared.text_fault.TextFault.{TextFault}
use Rattle.number_text.specs.declared.text_fault.TextFault.TheVariants.{Count, Memory}
use Rattle.qp_model.specs.problem.Range.{IsNumerator}
use Rattle.qp_model.specs.problem.Parts.{IsNumeratorList}
use Rattle.policy_file.specs.Records.{HoldsNumbers, IsRecordFault, records_of, record_at}
use Rattle.policy_file.proofs.MatrixFacts.{same_matrix}
use Rattle.policy_file.proofs.TextFacts.{records_count}
use Rattle.policy_file.proofs.UniqueFacts.{IsFunctional, same_number, same_numbers, wrong_or_right, same_record_fault, both_ways}
use Rattle.policy_file.specs.FloorRule.{floor_rule}
use Rattle.state_files.specs.ShiftRule.{least_shifts}
use Rattle.state_files.specs.RangeText.{range_floors, IsRangeText, HoldsShifts, IsRangeRecordFault, IsRangeFault, IsShiftRange}

-- ---- the records that were read are rows
pub record AreRead (text : List ℕ) (n : ℕ) (range : Matrix) (i : ℕ) : Type 0 where
  pub long : length range.rows ≡ i
  pub cols : range.cols ≡ n
  pub each : (e : ℕ) → e < i → HoldsNumbers (floor_rule (range_floors n (row_of range 0) e)) n (record_at (records_of text) e) (row_of range e)

-- the floors rest on the first row where that is there
same_first : (range new : Matrix) (n e : ℕ) (zs : List ℤ) → new ≡ record range { rows = range.rows ++ zs ∷ [] } → 0 < length range.rows → row_of range 0 ≡ row_of new 0
same_first range new n e zs is some = rw is (sym (get_or_append_left range.rows (zs ∷ []) [] 0 some))

floors_kept : (range new : Matrix) (n e : ℕ) (zs : List ℤ) → new ≡ record range { rows = range.rows ++ zs ∷ [] } → e ≤ length range.rows →
    range_floors n (row_of range 0) e ≡ range_floors n (row_of new 0) e
floors_kept range new n zero zs is l = refl
floors_kept range new n (suc e) zs is l = ap (λ (low : List ℤ). range_floors n low (suc e)) (same_first range new n (suc e) zs is (omega (arith, l)))

pub read_more : (text : List ℕ) (n i : ℕ) (range new : Matrix) (zs : List ℤ) → new ≡ record range { rows = range.rows ++ zs ∷ [] } →
    HoldsNumbers (floor_rule (range_floors n (row_of range 0) i)) n (record_at (records_of text) i) zs → AreRead text n range i → AreRead text n new (i + 1)
read_more text n i range new zs is here h = record {
  long = rw is (length_push range.rows zs ∙ ap (λ (k : ℕ). k + 1) h.long);
  cols = rw is h.cols;
  each = λ e l. elim (cases_lt e i) [
    | inl below ↦ moved e (row_of range e) (omega (arith, below, h.long)) (rw is (get_or_append_left range.rows (zs ∷ []) [] e (omega (arith, below, h.long)))) (h.each e below)
    | inr above ↦ (let last : e ≡ i = omega (arith, l, above) in moved e zs (omega (arith, last, h.long)) (rw (is, last) (get_or_push range.rows zs [] i h.long)) (rw last here))
  ];
}
  where
    moved : (e : ℕ) (xs : List ℤ) → e ≤ length range.rows → row_of new e ≡ xs → HoldsNumbers (floor_rule (range_floors n (row_of range 0) e)) n (record_at (records_of text) e) xs →
        HoldsNumbers (floor_rule (range_floors n (row_of new 0) e)) n (record_at (records_of text) e) (row_of new e)
    moved e xs l row h = rw (row, ← floors_kept range new n e zs is l) h

-- what they hold
held : (text : List ℕ) (n i : ℕ) (range : Matrix) → AreRead text n range i → (e : ℕ) → e < i → (zs : List ℤ) × HoldsShifts (records_of text) n (row_of range 0) e zs
held text n i range h e l = (row_of range e, record { holds = h.each e l; first = λ is. ap (row_of range) is })

-- ---- what the text is
pub range_found : (text : List ℕ) (n i : ℕ) (rows : List Row) (range : Matrix) → map fields_of rows ≡ records_of text → length rows ≤ i → length rows ≡ 2 → i ≤ length rows → AreRead text n range i → IsRangeText text n range
range_found text n i rows range e l two k h = record {
  records = omega (arith, records_count rows text e, two);
  rows = omega (arith, h.long, l, k, two);
  cols = h.cols;
  each = λ j o. h.each j (omega (arith, l, two, o));
}

pub record_fault : (text : List ℕ) (n i : ℕ) (rows : List Row) (range : Matrix) (fault : TextFault) → map fields_of rows ≡ records_of text → i < length rows → AreRead text n range i →
    (fault ≡ Memory) ⊎ IsRecordFault (floor_rule (range_floors n (row_of range 0) i)) n (i + 1) (record_at (records_of text) i) fault → (fault ≡ Memory) ⊎ IsRangeFault text n fault
record_fault text n i rows range fault e l h (inl memory) = inl memory
record_fault text n i rows range fault e l h (inr here) = inr (inl (record {
  least = row_of range 0;
  index = i;
  inside = omega (arith, records_count rows text e, l);
  before = held text n i range h;
  here = here;
}))

pub count_fault : (text : List ℕ) (n i k : ℕ) (rows : List Row) (range : Matrix) → map fields_of rows ≡ records_of text → k ≡ length rows → length rows ≤ i → length rows ≢ 2 → AreRead text n range i →
    (Count k ≡ Memory) ⊎ IsRangeFault text n (Count k)
count_fault text n i k rows range e s l two h = inr (inr (record {
  least = row_of range 0;
  each = λ j o. held text n i range h j (omega (arith, records_count rows text e, l, o));
  here = λ q. two (records_count rows text e ∙ q);
  told = ap Count (s ∙ records_count rows text e);
}))

-- ---- one way
floor_functional : (floors : List ℤ) → IsFunctional (floor_rule floors)
unfolding IsFunctional
floor_functional floors i field z w h k = same_number field z w h.0 k.0

module _ (rows : List (List (List ℕ))) (n : ℕ) where
  -- the floors of a record, where those before it are right
  first_same : (low other zs ws : List ℤ) → HoldsShifts rows n low 0 zs → HoldsShifts rows n other 0 ws → low ≡ other
  first_same low other zs ws h k = sym (h.first refl) ∙ same_numbers (floor_rule (least_shifts n)) n (record_at rows 0) zs ws (floor_functional (least_shifts n)) h.holds k.holds ∙ k.first refl

  abbrev HoldTo : (low : List ℤ) → ℕ → Type 0
  HoldTo low i = (e : ℕ) → e < i → (zs : List ℤ) × HoldsShifts rows n low e zs

  same_floors : (low other : List ℤ) (e : ℕ) → HoldTo low e → HoldTo other e → range_floors n low e ≡ range_floors n other e
  same_floors low other zero h k = refl
  same_floors low other (suc e) h k =
      let a = h 0 (omega arith) in
      let b = k 0 (omega arith) in
      ap (λ (x : List ℤ). range_floors n x (suc e)) (first_same low other a.0 b.0 a.1 b.1)

  below : (low : List ℤ) (e i : ℕ) → e ≤ i → HoldTo low i → HoldTo low e
  below low e i l h j m = h j (omega (arith, l, m))

  -- a record that is right by one reading is not wrong by another
  clash : (low other : List ℤ) (e : ℕ) (fault : TextFault) → HoldTo low e → HoldTo other (suc e) → IsRecordFault (floor_rule (range_floors n low e)) n (e + 1) (record_at rows e) fault → ⊥
  clash low other e fault h k wrong =
      let z = k e (omega arith) in
      let same = same_floors low other e h (below other e (suc e) (omega arith) k) in
      wrong_or_right (floor_rule (range_floors n other e)) n (e + 1) (record_at rows e) z.0 fault (rw same at wrong) z.1.holds

  index_le : (f g : TextFault) (h : IsRangeRecordFault rows n f) (k : IsRangeRecordFault rows n g) → h.index ≤ k.index
  index_le f g h k = elim (cases_lt k.index h.index) [
    | inl l ↦ absurd (clash k.least h.least k.index g k.before (below h.least (suc k.index) h.index (omega (arith, l)) h.before) k.here)
    | inr l ↦ l
  ]

  one_record : (f g : TextFault) → IsRangeRecordFault rows n f → IsRangeRecordFault rows n g → f ≡ g
  one_record f g h k =
      let low = index_le f g h k in
      let high = index_le g f k h in
      let e : k.index ≡ h.index = omega (arith, low, high) in
      let before : HoldTo k.least h.index = λ j l. k.before j (omega (arith, l, e)) in
      let same = same_floors k.least h.least h.index before h.before in
      same_record_fault (floor_rule (range_floors n h.least h.index)) n (h.index + 1) (record_at rows h.index) f g h.here (rw same at (rw e at k.here))

  all_or_wrong : (low : List ℤ) (f : TextFault) → HoldTo low (length rows) → IsRangeRecordFault rows n f → ⊥
  all_or_wrong low f h k = clash k.least low k.index f k.before (below low (suc k.index) (length rows) (omega (arith, k.inside)) h) k.here

range_one : (bytes : List ℕ) (n : ℕ) (f g : TextFault) → IsRangeFault bytes n f → IsRangeFault bytes n g → f ≡ g
range_one bytes n f g (inl h) (inl k) = one_record (records_of bytes) n f g h k
range_one bytes n f g (inl h) (inr k) = absurd (all_or_wrong (records_of bytes) n k.least f k.each h)
range_one bytes n f g (inr h) (inl k) = absurd (all_or_wrong (records_of bytes) n h.least g h.each k)
range_one bytes n f g (inr h) (inr k) = h.told ∙ sym k.told

read_as : (bytes : List ℕ) (n : ℕ) (range : Matrix) → IsRangeText bytes n range → AreRead bytes n range 2
read_as bytes n range h = record { long = h.rows; cols = h.cols; each = h.each }

range_not : (bytes : List ℕ) (n : ℕ) (range : Matrix) (f : TextFault) → IsRangeText bytes n range → IsRangeFault bytes n f → ⊥
range_not bytes n range f h (inl k) =
    all_or_wrong (records_of bytes) n (row_of range 0) f (λ e l. held bytes n 2 range (read_as bytes n range h) e (omega (arith, l, h.records))) k
range_not bytes n range f h (inr k) = k.here h.records

range_same : (bytes : List ℕ) (n : ℕ) (a b : Matrix) → IsRangeText bytes n a → IsRangeText bytes n b → a ≡ b
range_same bytes n a b h k = same_matrix a b (h.cols ∙ sym k.cols) (h.rows ∙ sym k.rows) (λ e l. rows_same e (omega (arith, l, h.rows)))
  where
    first : row_of a 0 ≡ row_of b 0
    first = first_same (records_of bytes) n (row_of a 0) (row_of b 0) _ _ (held bytes n 2 a (read_as bytes n a h) 0 (omega arith)).1 (held bytes n 2 b (read_as bytes n b k) 0 (omega arith)).1

    rows_same : (e : ℕ) → e < 2 → row_of a e ≡ row_of b e
    rows_same e l =
        same_numbers (floor_rule (range_floors n (row_of b 0) e)) n (record_at (records_of bytes) e) (row_of a e) (row_of b e) (floor_functional (range_floors n (row_of b 0) e))
        (rw first at (h.each e l)) (k.each e l)

pub range_told : (bytes : List ℕ) (n : ℕ) (r : Result Matrix TextFault) → IfOk r (IsRangeText bytes n) → IfErr r (λ e. (e ≡ Memory) ⊎ IsRangeFault bytes n e) →
    ((a : Matrix) → IsRangeText bytes n a → MatchResult r (λ m. m ≡ a) (λ e. e ≡ Memory)) ×
    ((e : TextFault) → IsRangeFault bytes n e → MatchResult r (λ _. ⊥) (λ f. (f ≡ e) ⊎ (f ≡ Memory)))
range_told bytes n r found fault =
    both_ways (λ (m : Matrix). m) r (IsRangeText bytes n) (IsRangeFault bytes n) found fault (range_not bytes n) (range_same bytes n) (range_one bytes n)

-- ---- its sizes and ranges
small : (floor z : ℤ) → negsuc 2147483646 ≤ℤ floor → floor ≤ℤ z → z <ℤ pos (2 ^ 31) → IsNumerator z
small floor z f h k = omega (arith, ints, f, h, k)

module _ (bytes : List ℕ) (n : ℕ) (range : Matrix) (h : IsRangeText bytes n range) where
  least_at : (i : ℕ) → i < n → at (least_shifts n) i ≡ negsuc 2147483646
  least_at i l = get_or-replicate n i (negsuc 2147483646) (pos 0) l

  low_from : (i : ℕ) → i < n → negsuc 2147483646 ≤ℤ at (row_of range 0) i
  low_from i l = rw (← least_at i l) ((h.each 0 (omega arith)).each i l).1.low

  row_sized : (e : ℕ) → e < 2 → ((i : ℕ) → i < n → negsuc 2147483646 ≤ℤ at (range_floors n (row_of range 0) e) i) → IsNumeratorList (row_of range e) n
  row_sized e l floors = record {
    long = (h.each e l).numbers;
    numbers = λ i z m. (
        let o : i < n = omega (arith, m, (h.each e l).numbers) in
        let own = ((h.each e l).each i o).1 in
        rw (get_or_default (row_of range e) i z (pos 0) m) (small _ _ (floors i o) own.low own.high)
        );
  }

  pub range_sized : IsShiftRange n range
  range_sized = record {
    rows = h.rows;
    low = row_sized 0 (omega arith) (λ i l. rw (least_at i l) (omega (arith, ints)));
    high = row_sized 1 (omega arith) low_from;
    ordered = λ i l. ((h.each 1 (omega arith)).each i l).1.low;
  }

pub all_sized : (bytes : List ℕ) (n : ℕ) (r : Result Matrix TextFault) → IfOk r (IsRangeText bytes n) → IfOk r (IsShiftRange n)
all_sized bytes n (Ok m) h = range_sized bytes n m h
all_sized bytes n (Err e) h = tt
