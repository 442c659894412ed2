-- What an iterator over the records of a text has left, record by record.
use Rattle.std.proofs.Common.{◌≡◌, ◌⊎◌, Bor, ℕ, zero, suc, ◌+◌, ◌<◌, ◌≤◌, ◌^◌, ℤ, List, [], ◌∷◌, ◌++◌, length, drop, Option, Some, None, true, false, refl, sym, ap, ◌∙◌, arith, inl, inr}
use Rattle.std.proofs.lemmas.Bool.{cases_lt}
use Rattle.std.proofs.lemmas.List.{drop_more, drop_all}
use Rattle.csv.specs.Machine.{Read, next_record, ends_at_end}
use Rattle.csv.specs.Reading.{ReadRecord, Reached, default_config, records_from, records_next}
use Rattle.csv.specs.declared.iter.ByteRecordsIntoIter.{ByteRecordsIntoIter}
use Rattle.csv.specs.declared.parser.Config.{Config}
use Rattle.csv.specs.declared.parser.State.{State}
use Rattle.csv.proofs.ReadFacts.{rows-end, rows-more}
use Rattle.number_text.specs.declared.text_fault.TextFault.{TextFault}
use Rattle.number_text.specs.declared.text_fault.TextFault.TheVariants.{Memory}
use Rattle.policy_file.specs.Records.{RecordRule, HoldsNumbers, IsRecordFault, IsRecordsFault, IsRowsText, records_of, record_at, field_room}
use Rattle.policy_file.specs.RecordsLeft.{HasLeft}
use Rattle.mat_int.specs.Matrix.{Matrix, row_of}
use Rattle.policy_file.proofs.MatrixFacts.{row_pushed}
use Rattle.policy_file.proofs.RecordFacts.{record_taken, record_taken_some, records_few, records_room}

abbrev pub Rows : Type 0
Rows = ByteRecordsIntoIter (Bor (List ℕ))

abbrev pub known : Bor (List ℕ) → Option (List ℕ)
known s = Some s.now

-- ---- any limit above the bytes gives the same records
enough : (cfg : Config) (n m : ℕ) (s : State) (xs : List ℕ) → ends_at_end s ≡ false → length xs < n → length xs < m → records_from cfg n s xs ≡ records_from cfg m s xs
unfolding records_from
enough cfg zero m s xs start h k = absurd (omega arith)
enough cfg (suc n) zero s xs start h k = absurd (omega arith)
enough cfg (suc n) (suc m) s xs start h k = by (enough cfg n m) (next_record cfg s [] [] xs) refl
  where
    by : ((t : State) (ys : List ℕ) → ends_at_end t ≡ false → length ys < n → length ys < m → records_from cfg n t ys ≡ records_from cfg m t ys) →
        (o : Option Read) → next_record cfg s [] [] xs ≡ o → records_next (records_from cfg n) o ≡ records_next (records_from cfg m) o
    by less None e = refl
    by less (Some p) e =
        let fewer = record_taken_some cfg s xs p start e in
        ap (λ (rows : List (List (List ℕ))). p.0 ∷ rows) (less p.1 p.2 (record_taken cfg s [] [] xs p e).start (omega arith) (omega arith))

-- the first record, and those after it
by_one : (cfg : Config) (s : State) (xs : List ℕ) → records_from cfg (length xs + 1) s xs ≡ records_next (records_from cfg (length xs)) (next_record cfg s [] [] xs)
unfolding records_from
by_one cfg s xs = let more : length xs + 1 ≡ suc (length xs) = omega arith in rw more refl

first_of : (cfg : Config) (s : State) (xs : List ℕ) (p : Read) → ends_at_end s ≡ false → next_record cfg s [] [] xs ≡ Some p →
    records_from cfg (length xs + 1) s xs ≡ p.0 ∷ records_from cfg (length p.2 + 1) p.1 p.2
first_of cfg s xs p start e =
    let fewer = record_taken_some cfg s xs p start e in
    by_one cfg s xs ∙ rw e (ap (λ (rows : List (List (List ℕ))). p.0 ∷ rows) (enough cfg (length xs) (length p.2 + 1) p.1 p.2 (record_taken cfg s [] [] xs p e).start (omega arith) (omega arith)))

none_of : (cfg : Config) (s : State) (xs : List ℕ) → next_record cfg s [] [] xs ≡ None → records_from cfg (length xs + 1) s xs ≡ []
none_of cfg s xs e = by_one cfg s xs ∙ rw e refl

-- ---- a turn of the iterator
-- a record was given, and these are left
pub record Given (fields : List (List ℕ)) (left : List (List (List ℕ))) (b : Rows) : Type 0 where
  pub rest : List (List (List ℕ))
  pub split : left ≡ fields ∷ rest
  pub stays : HasLeft b rest

pub given : (a b : Rows) (fields : List (List ℕ)) (left : List (List (List ℕ))) → HasLeft a left → ReadRecord known a.rdr b.rdr true fields → b.rdr.first ≡ true → 0 < b.left → Given fields left b
unfolding Reached
given a b fields left h read first turns =
    let more = rows-more known a.rdr b.rdr fields default_config a.rdr.state h.bytes h.bytes [] h.config h.source (refl, refl) read in
    let p = more.2.0 in
    let one = more.2.1 in
    let taken = record_taken default_config a.rdr.state [] [] h.bytes p one in
    record {
      rest = records_from default_config (length p.2 + 1) p.1 p.2;
      split = h.records ∙ first_of default_config a.rdr.state h.bytes p h.start one ∙ ap (λ (f : List (List ℕ)). f ∷ records_from default_config (length p.2 + 1) p.1 p.2) (sym more.2.2);
      stays = record {
        trim = read.3 ∙ h.trim;
        ready = inl first;
        turns = turns;
        config = read.2 ∙ h.config;
        start = rw (← more.2.3.0) taken.start;
        bytes = more.0;
        source = more.1;
        records = rw (more.2.3.0, more.2.3.1) refl;
      };
    }

pub none_given : (a b : Rows) (left : List (List (List ℕ))) → HasLeft a left → ReadRecord known a.rdr b.rdr false [] → left ≡ []
none_given a b left h read = h.records ∙ none_of default_config a.rdr.state h.bytes (rows-end known a.rdr b.rdr [] default_config h.bytes h.config h.source read)

-- ---- the records of a text, of which so many were given
split_at : (rows rest : List (List (List ℕ))) (i : ℕ) (fields : List (List ℕ)) → drop i rows ≡ fields ∷ rest → (i < length rows) × (fields ≡ record_at rows i) × (rest ≡ drop (i + 1) rows)
split_at rows rest i fields e = elim (cases_lt i (length rows)) [
  | inl l ↦ (
      let more = sym e ∙ drop_more rows i [] l in
      (l, ap (λ (xs : List (List (List ℕ))). record_at xs 0) more, ap (λ (xs : List (List (List ℕ))). drop 1 xs) more)
      )
  | inr l ↦ (let none : [] ≡ fields ∷ rest = sym (drop_all i rows l) ∙ e in absurd cc)
]

-- record i of a text, from 0, was given
pub record GivenAt (text : List ℕ) (i : ℕ) (fields : List (List ℕ)) (b : Rows) : Type 0 where
  pub inside : i < length (records_of text)
  pub here : fields ≡ record_at (records_of text) i
  pub left : HasLeft b (drop (i + 1) (records_of text))

pub given_at : (text : List ℕ) (i : ℕ) (a b : Rows) (fields : List (List ℕ)) → HasLeft a (drop i (records_of text)) → ReadRecord known a.rdr b.rdr true fields → b.rdr.first ≡ true → 0 < b.left →
    GivenAt text i fields b
given_at text i a b fields h read first turns =
    let g = given a b fields (drop i (records_of text)) h read first turns in
    let s = split_at (records_of text) g.rest i fields g.split in
    record { inside = s.0; here = s.1; left = rw (← s.2) g.stays }

pub all_given : (text : List ℕ) (i : ℕ) (a b : Rows) → HasLeft a (drop i (records_of text)) → ReadRecord known a.rdr b.rdr false [] → length (records_of text) ≤ i
all_given text i a b h read = elim (cases_lt i (length (records_of text))) [
  | inl l ↦ (let none : record_at (records_of text) i ∷ drop (i + 1) (records_of text) ≡ [] = sym (drop_more (records_of text) i [] l) ∙ none_given a b _ h read in absurd cc)
  | inr l ↦ l
]

-- ---- of the record that was given
pub given_room : (text : List ℕ) (i : ℕ) (fields : List (List ℕ)) (b : Rows) → GivenAt text i fields b → length text < 2 ^ 32 → field_room fields ≤ 2 ^ 32
given_room text i fields b g small = rw g.here (omega (arith, records_room text i g.inside))

pub given_small : (text : List ℕ) (i : ℕ) (fields : List (List ℕ)) (b : Rows) → GivenAt text i fields b → length text < 2 ^ 32 → i + 1 < 2 ^ 32
given_small text i fields b g small = omega (arith, g.inside, records_few text)

-- the first record that is wrong
pub given_fault : (rule : RecordRule) (count : ℕ) (text : List ℕ) (i : ℕ) (fields : List (List ℕ)) (b : Rows) (fault : TextFault) (nums : ℕ → List ℤ) → GivenAt text i fields b →
    ((e : ℕ) → e < i → HoldsNumbers rule count (record_at (records_of text) e) (nums e)) →
    (fault ≡ Memory) ⊎ IsRecordFault rule count (i + 1) fields fault → (fault ≡ Memory) ⊎ IsRecordsFault rule count (records_of text) fault
given_fault rule count text i fields b fault nums g before (inl m) = inl m
given_fault rule count text i fields b fault nums g before (inr f) = inr (record { index = i; inside = g.inside; before = λ k m. (nums k, before k m); here = rw (← g.here) f })

-- ---- a matrix that has a row for each record that was given
pub record ReadSoFar (rule : RecordRule) (width : ℕ) (text : List ℕ) (rows : Rows) (m : Matrix) : Type 0 where
  pub left : HasLeft rows (drop (length m.rows) (records_of text))
  pub few : length m.rows ≤ length (records_of text)
  pub cols : m.cols ≡ width
  pub each : (e : ℕ) → e < length m.rows → HoldsNumbers rule width (record_at (records_of text) e) (row_of m e)

pub none_read : (rule : RecordRule) (width : ℕ) (text : List ℕ) (rows : Rows) → HasLeft rows (records_of text) → ReadSoFar rule width text rows (record { cols = width; rows = [] })
none_read rule width text rows h = record { left = h; few = omega arith; cols = refl; each = λ e l. absurd (omega arith) }

pub read_more : (rule : RecordRule) (width : ℕ) (text : List ℕ) (a b : Rows) (m new : Matrix) (fields : List (List ℕ)) (zs : List ℤ) → new ≡ record m { rows = m.rows ++ zs ∷ [] } →
    ReadSoFar rule width text a m → GivenAt text (length m.rows) fields b → HoldsNumbers rule width fields zs → ReadSoFar rule width text b new
read_more rule width text a b m new fields zs e r g h =
    let f = row_pushed (λ e xs. HoldsNumbers rule width (record_at (records_of text) e) xs) m new width (length m.rows) zs e (rw (← g.here) h) (record { long = refl; cols = r.cols; each = r.each }) in
    record { left = rw f.long g.left; few = omega (arith, f.long, g.inside); cols = f.cols; each = λ k l. f.each k (rw (← f.long) l) }

-- when all records are read
pub rows_read : (rule : RecordRule) (width : ℕ) (text : List ℕ) (rows : Rows) (m : Matrix) → length (records_of text) ≤ length m.rows → ReadSoFar rule width text rows m → IsRowsText rule width text m
rows_read rule width text rows m all r = record { cols = r.cols; rows = omega (arith, r.few); each = λ e l. r.each e (omega arith) }
