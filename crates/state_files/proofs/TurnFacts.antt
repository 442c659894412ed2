-- Shifts turn by turn, record by record: what their text holds, and that it is right in one way.
use Rattle.std.proofs.Common.{◌≡◌, ◌≢◌, ◌⊎◌, ℕ, ◌<◌, ◌^◌, ℤ, pos, negsuc, List, [], length, get_or, unsigned_abs, Result, Ok, Err, sym, ap, subst, ◌∙◌, arith, inl, inr}
use Rattle.std.specs.Prelude.{IfOk, IfErr, MatchResult}
use Rattle.std.proofs.lemmas.Bool.{cases_lt}
use Rattle.std.proofs.lemmas.Int.{ints}
use Rattle.std.proofs.lemmas.List.{get_or_past, get_or-replicate}
use Rattle.integer_algebra.specs.Sums.{at}
use Rattle.mat_int.specs.Matrix.{Matrix, row_of, entry_of}
use Rattle.number_text.specs.declared.text_fault.TextFault.{TextFault}
use Rattle.number_text.specs.declared.text_fault.TextFault.TheVariants.{Count, Memory}
use Rattle.policy_file.specs.Records.{IsRecordsFault, IsRowsText, records_of, record_at}
use Rattle.policy_file.proofs.MatrixFacts.{same_matrix}
use Rattle.policy_file.proofs.UniqueFacts.{IsFunctional, same_number, same_numbers, held_or_wrong, same_first_fault, both_ways}
use Rattle.policy_file.specs.FloorRule.{IsShiftFrom, floor_rule}
use Rattle.state_files.specs.ShiftRule.{least_shifts}
use Rattle.state_files.specs.TurnText.{turn_rule, IsShiftsText, IsTurnCountFault, IsShiftsFault}

-- ---- what the text is
-- in the words of what reads the records, whose floors are these
module _ (text : List ℕ) (n turns : ℕ) (floors : List ℤ) (is : floors ≡ least_shifts n) where
  rows_are : (m : Matrix) → IsRowsText (floor_rule floors) n text m → IsRowsText (turn_rule n) n text m
  rows_are m r = subst (λ (xs : List ℤ). IsRowsText (floor_rule xs) n text m) is r

  pub turns_found : (m : Matrix) → IsRowsText (floor_rule floors) n text m → length m.rows ≡ turns → IsShiftsText text n turns m
  turns_found m read so =
      let r = rows_are m read in
      record { records = sym r.rows ∙ so; rows = so; cols = r.cols; each = λ e l. r.each e (omega (arith, r.rows, so, l)) }

  pub turn_count : (m : Matrix) → IsRowsText (floor_rule floors) n text m → (k : ℕ) → k ≡ length m.rows → length m.rows ≢ turns → (Count k ≡ Memory) ⊎ IsShiftsFault text n turns (Count k)
  turn_count m read k s other =
      let r = rows_are m read in
      inr (inr (record { each = λ e l. (row_of m e, r.each e l); here = λ q. other (r.rows ∙ q); told = ap Count (s ∙ r.rows) }))

  -- that of a record is one of the text
  pub record_fault : (fault : TextFault) → (fault ≡ Memory) ⊎ IsRecordsFault (floor_rule floors) n (records_of text) fault → (fault ≡ Memory) ⊎ IsShiftsFault text n turns fault
  record_fault fault (inl m) = inl m
  record_fault fault (inr f) = inr (inl (subst (λ (xs : List ℤ). IsRecordsFault (floor_rule xs) n (records_of text) fault) is f))

-- ---- one way
turn_functional : (n : ℕ) → IsFunctional (turn_rule n)
unfolding IsFunctional
turn_functional n i field z w h k = same_number field z w h.0 k.0

module _ (bytes : List ℕ) (n turns : ℕ) where
  all_or_wrong : (e : TextFault) → IsTurnCountFault (records_of bytes) n turns e → (f : TextFault) → IsRecordsFault (turn_rule n) n (records_of bytes) f → ⊥
  all_or_wrong e h f k = held_or_wrong (turn_rule n) n (length (records_of bytes)) (records_of bytes) f (omega arith) h.each k

  turns_not : (m : Matrix) (e : TextFault) → IsShiftsText bytes n turns m → IsShiftsFault bytes n turns e → ⊥
  turns_not m e h (inl f) = held_or_wrong (turn_rule n) n turns (records_of bytes) e (omega (arith, h.records)) (λ i l. (row_of m i, h.each i l)) f
  turns_not m e h (inr f) = f.here h.records

  turns_same : (a b : Matrix) → IsShiftsText bytes n turns a → IsShiftsText bytes n turns b → a ≡ b
  turns_same a b h k = same_matrix a b (h.cols ∙ sym k.cols) (h.rows ∙ sym k.rows)
      (λ e l. let m : e < turns = omega (arith, l, h.rows) in
      same_numbers (turn_rule n) n (record_at (records_of bytes) e) (row_of a e) (row_of b e) (turn_functional n) (h.each e m) (k.each e m))

  turns_one : (e f : TextFault) → IsShiftsFault bytes n turns e → IsShiftsFault bytes n turns f → e ≡ f
  turns_one e f (inl h) (inl k) = same_first_fault (turn_rule n) n (records_of bytes) e f h k
  turns_one e f (inl h) (inr k) = absurd (all_or_wrong f k e h)
  turns_one e f (inr h) (inl k) = absurd (all_or_wrong e h f k)
  turns_one e f (inr h) (inr k) = h.told ∙ sym k.told

  pub turns_told : (r : Result Matrix TextFault) → IfOk r (IsShiftsText bytes n turns) → IfErr r (λ e. (e ≡ Memory) ⊎ IsShiftsFault bytes n turns e) →
      ((a : Matrix) → IsShiftsText bytes n turns a → MatchResult r (λ m. m ≡ a) (λ e. e ≡ Memory)) ×
      ((e : TextFault) → IsShiftsFault bytes n turns e → MatchResult r (λ _. ⊥) (λ f. (f ≡ e) ⊎ (f ≡ Memory)))
  turns_told r found fault = both_ways (λ (m : Matrix). m) r (IsShiftsText bytes n turns) (IsShiftsFault bytes n turns) found fault turns_not turns_same turns_one

  -- ---- each shift is small, and there is none elsewhere
  within : (floor z : ℤ) → floor ≡ negsuc 2147483646 → IsShiftFrom floor z → unsigned_abs z < 2 ^ 31
  within floor z is h = omega (arith, ints, is, h.low, h.high)

  none_small : (z : ℤ) → z ≡ pos 0 → unsigned_abs z < 2 ^ 31
  none_small z is = omega (arith, ints, is)

  pub turns_small : (m : Matrix) → IsShiftsText bytes n turns m → (k i : ℕ) → unsigned_abs (entry_of m k i) < 2 ^ 31
  turns_small m h k i = elim (cases_lt k turns) [
    | inr le ↦ none_small (entry_of m k i) (ap (λ (xs : List ℤ). get_or xs i (pos 0)) (get_or_past m.rows k [] (omega (arith, le, h.rows))) ∙ get_or_past [] i (pos 0) (omega arith))
    | inl lt ↦ elim (cases_lt i n) [
      | inr le ↦ none_small (entry_of m k i) (get_or_past (row_of m k) i (pos 0) (omega (arith, le, (h.each k lt).numbers)))
      | inl small ↦ within (at (least_shifts n) i) (entry_of m k i) (get_or-replicate n i (negsuc 2147483646) (pos 0) small) ((h.each k lt).each i small).1
    ]
  ]

  pub all_small : (r : Result Matrix TextFault) → IfOk r (IsShiftsText bytes n turns) → IfOk r (λ m. (k i : ℕ) → unsigned_abs (entry_of m k i) < 2 ^ 31)
  all_small (Ok m) h = turns_small m h
  all_small (Err e) h = tt
