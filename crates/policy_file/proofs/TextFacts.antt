-- A text record by record.
use Rattle.std.proofs.Common.{◌≡◌, ◌⊎◌, ℕ, ◌+◌, ◌<◌, ◌≤◌, ◌^◌, ℤ, List, [], length, map, get_or, Result, Ok, Err, sym, ap, ◌∙◌, arith, inl, inr}
use Rattle.std.specs.Prelude.{IfErr}
use Rattle.std.specs.Result.{IsErrAnd}
use Rattle.std.proofs.lemmas.List.{get_or-map, length-map}
use Rattle.csv.specs.Records.{Row, fields_of}
use Rattle.number_text.specs.declared.text_fault.TextFault.{TextFault}
use Rattle.number_text.specs.declared.text_fault.TextFault.TheVariants.{Memory}
use Rattle.policy_file.specs.Records.{RecordRule, HoldsNumbers, IsRecordFault, IsRecordsFault, records_of, record_at, field_room}
use Rattle.policy_file.proofs.RecordFacts.{records_few, records_room}

-- a record that was lent
pub record_is : (rows : List Row) (text : List ℕ) (row : Row) (i : ℕ) → map fields_of rows ≡ records_of text → i < length rows → row ≡ get_or rows i row →
    fields_of row ≡ record_at (records_of text) i
record_is rows text row i e l h = ap fields_of h ∙ sym (get_or-map fields_of rows i row [] l) ∙ ap (λ (rs : List (List (List ℕ))). get_or rs i []) e

pub records_count : (rows : List Row) (text : List ℕ) → map fields_of rows ≡ records_of text → length rows ≡ length (records_of text)
records_count rows text e = sym (length-map rows fields_of) ∙ ap length e

-- its number fits
pub entry_small : (rows : List Row) (text : List ℕ) (i : ℕ) → map fields_of rows ≡ records_of text → length text < 2 ^ 32 → i < length rows → i + 1 < 2 ^ 32
entry_small rows text i e small l = omega (arith, records_count rows text e, records_few text)

pub room_small : (rows : List Row) (text : List ℕ) (row : Row) (i : ℕ) → map fields_of rows ≡ records_of text → length text < 2 ^ 32 → i < length rows → row ≡ get_or rows i row →
    field_room (fields_of row) ≤ 2 ^ 32
room_small rows text row i e small l h =
    rw (record_is rows text row i e l h) (omega (arith, records_room text i (omega (arith, records_count rows text e))))

-- an error that was passed on
pub passed_on : {A : Type 0} (r : Result A TextFault) (P : TextFault → Type 0) (e : TextFault) → IsErrAnd r (λ x. x ≡ e) → P e → IfErr r P
passed_on (Ok a) P e h p = tt
passed_on (Err x) P e h p = rw h p

-- the first record that is wrong
pub first_fault : (rule : RecordRule) (count : ℕ) (rows : List Row) (text : List ℕ) (row : Row) (i : ℕ) (fault : TextFault) (nums : ℕ → List ℤ) →
    map fields_of rows ≡ records_of text → i < length rows → row ≡ get_or rows i row →
    ((e : ℕ) → e < i → HoldsNumbers rule count (record_at (records_of text) e) (nums e)) →
    (fault ≡ Memory) ⊎ IsRecordFault rule count (i + 1) (fields_of row) fault → (fault ≡ Memory) ⊎ IsRecordsFault rule count (records_of text) fault
first_fault rule count rows text row i fault nums e l h before (inl m) = inl m
first_fault rule count rows text row i fault nums e l h before (inr f) = inr (record {
  index = i;
  inside = omega (arith, records_count rows text e);
  before = λ k m. (nums k, before k m);
  here = rw (← record_is rows text row i e l h) f;
})
