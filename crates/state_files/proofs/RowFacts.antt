-- A record that was read, or an error.
use Rattle.std.proofs.Common.{◌≡◌, ◌⊎◌, ℕ, ◌+◌, ◌<◌, List, length, Result, Ok, Err, refl, inl, inr}
use Rattle.std.specs.Prelude.{IfOk, IsOkAnd}
use Rattle.csv.specs.Records.{Row, fields_of}
use Rattle.mat_int.specs.Matrix.{Matrix, row_of}
use Rattle.number_text.specs.declared.text_fault.TextFault.{TextFault}
use Rattle.number_text.specs.declared.text_fault.TextFault.TheVariants.{Memory}
use Rattle.policy_file.specs.Records.{RecordRule, HoldsNumbers, IsRecordFault, IsRecordsFault, records_of, record_at}
use Rattle.policy_file.proofs.LeftFacts.{Rows, GivenAt, given_fault}

module _ {E : Type 0} where
  -- of each record that it may be
  pub for_each : (r : Result Row E) (P : Row → Type 0) → ((row : Row) → r ≡ Ok row → P row) → IfOk r P
  for_each (Ok row) P h = h row refl
  for_each (Err e) P h = tt

  -- of the record that it is
  pub of_it : (r : Result Row E) (P : Row → Type 0) (Q : Type 0) → IsOkAnd r P → ((row : Row) → r ≡ Ok row → P row → Q) → Q
  of_it (Ok row) P Q h k = k row refl h
  of_it (Err e) P Q h k = absurd h

  pub at_it : (r : Result Row E) (row : Row) (P : Row → Type 0) → r ≡ Ok row → IfOk r P → P row
  at_it r row P is h = (rw is at h)

  pub it_is : (r : Result Row E) (row : Row) (P : Row → Type 0) → r ≡ Ok row → P row → IsOkAnd r P
  it_is r row P is h = rw is h

  -- its fault
  pub its_fault : (r : Result Row E) (row : Row) (rule : RecordRule) (width cols k n : ℕ) (fault : TextFault) → r ≡ Ok row → width ≡ cols → k ≡ n →
      (fault ≡ Memory) ⊎ IsRecordFault rule width (k + 1) (fields_of row) fault → (fault ≡ Memory) ⊎ IsOkAnd r (λ x. IsRecordFault rule cols (n + 1) (fields_of x) fault)
  its_fault r row rule width cols k n fault is w s (inl m) = inl m
  its_fault r row rule width cols k n fault is w s (inr f) = inr (rw is (rw (w, s) at f))

  -- where it is the next of a text, that of its first record that is wrong
  pub next_fault : (rule : RecordRule) (width : ℕ) (text : List ℕ) (m : Matrix) (r : Result Row E) (b : Rows) (fault : TextFault) → m.cols ≡ width →
      ((e : ℕ) → e < length m.rows → HoldsNumbers rule width (record_at (records_of text) e) (row_of m e)) →
      ((row : Row) → r ≡ Ok row → GivenAt text (length m.rows) (fields_of row) b) →
      (fault ≡ Memory) ⊎ IsOkAnd r (λ x. IsRecordFault rule m.cols (length m.rows + 1) (fields_of x) fault) → (fault ≡ Memory) ⊎ IsRecordsFault rule width (records_of text) fault
  next_fault rule width text m (Ok row) b fault w each given (inl memory) = inl memory
  next_fault rule width text m (Ok row) b fault w each given (inr f) = given_fault rule width text (length m.rows) (fields_of row) b fault (row_of m) (given row refl) each (inr (rw w at f))
  next_fault rule width text m (Err e) b fault w each given (inl memory) = inl memory
  next_fault rule width text m (Err e) b fault w each given (inr f) = absurd f
