-- Records that begin with a number of their own, one by one.
use Rattle.std.proofs.Common.{◌≡◌, ◌≢◌, ◌⊎◌, ℕ, ◌+◌, ◌-◌, ◌<◌, ◌≤◌, ℤ, pos, List, [], ◌∷◌, ◌++◌, length, map, take, drop, refl, ap, ◌∙◌, arith, inl, inr}
use Rattle.std.proofs.lemmas.List.{get_or_append_left, get_or_push, length-drop, take_rest}
use Rattle.integer_algebra.specs.Sums.{at}
use Rattle.csv.specs.Records.{Row, fields_of}
use Rattle.mat_int.specs.Matrix.{Matrix, row_of}
use Rattle.number_text.specs.declared.text_fault.TextFault.{TextFault}
use Rattle.number_text.specs.declared.text_fault.TextFault.TheVariants.{Count, Memory}
use Rattle.policy_file.specs.Records.{RecordRule, HoldsNumbers, IsRecordsFault, records_of, record_at}
use Rattle.policy_file.specs.HeadedText.{IsHeadedText, IsHeadedFault}
use Rattle.policy_file.proofs.MatrixFacts.{Filled, row_pushed}
use Rattle.policy_file.proofs.TextFacts.{records_count}

-- a list is its first number and those behind it
first_and_rest : (zs : List ℤ) → 0 < length zs → at zs 0 ∷ drop 1 zs ≡ zs
first_and_rest [] l = absurd (omega arith)
first_and_rest (z ∷ zs) l = refl

-- there is a first number
pub numbered : (zs : List ℤ) (n : ℕ) → length zs ≡ n + 1 → 1 ≤ length zs
numbered zs n l = omega (arith, l)

-- and so many are behind it
pub rest_long : (zs : List ℤ) (n cols : ℕ) → length zs ≡ n + 1 → cols ≡ n → length (take (length zs - 1) (drop 1 zs)) ≡ cols
rest_long zs n cols l m = rw (take_rest zs 1) (omega (arith, length-drop 1 zs, l, m))

module _ (rule : RecordRule) (text : List ℕ) (width : ℕ) where
  -- what each record so far holds
  abbrev pub HoldsHeaded : List ℤ → ℕ → List ℤ → Type 0
  HoldsHeaded heads e xs = HoldsNumbers rule (width + 1) (record_at (records_of text) e) (at heads e ∷ xs)

  -- with one more
  pub headed_more : (i : ℕ) (heads more : List ℤ) (z : ℤ) (m new : Matrix) (zs : List ℤ) → more ≡ heads ++ z ∷ [] → z ≡ at zs 0 → length heads ≡ i →
      HoldsNumbers rule (width + 1) (record_at (records_of text) i) zs → new ≡ record m { rows = m.rows ++ drop 1 zs ∷ [] } →
      Filled (HoldsHeaded heads) m width i → Filled (HoldsHeaded more) new width (i + 1)
  headed_more i heads more z m new zs n f l here e h =
      row_pushed (HoldsHeaded more) m new width i (drop 1 zs) e
      (rw (n, get_or_push heads z (pos 0) i l, f, first_and_rest zs (omega (arith, here.numbers))) here)
      (record {
        long = h.long;
        cols = h.cols;
        each = λ k m. rw (n, get_or_append_left heads (z ∷ []) (pos 0) k (omega (arith, l))) (h.each k m);
      })

  module _ (number : ℕ) (rows : List Row) (i : ℕ) (heads : List ℤ) (m : Matrix) (e : map fields_of rows ≡ records_of text) (l : length rows ≤ i) where
    -- all of them
    pub headed_found : length rows ≡ number → Filled (HoldsHeaded heads) m width i → length heads ≡ i → i ≤ length rows → IsHeadedText rule text width number heads m
    headed_found n f k o = record {
      records = omega (arith, records_count rows text e);
      count = omega arith;
      rows = omega (arith, f.long);
      cols = f.cols;
      each = λ j p. f.each j (omega arith);
    }

    -- too many, or too few
    pub number_fault : (n : ℕ) → n ≡ length rows → length rows ≢ number → ((e : ℕ) → e < i → HoldsHeaded heads e (row_of m e)) → (Count n ≡ Memory) ⊎ IsHeadedFault rule text width number (Count n)
    number_fault n s k h = inr (inr (record {
      each = λ j o. (at heads j ∷ row_of m j, h j (omega (arith, records_count rows text e)));
      here = λ q. k (records_count rows text e ∙ q);
      told = ap Count (s ∙ records_count rows text e);
    }))

  -- that of a record is one of the text
  pub either_fault : (number : ℕ) (fault : TextFault) → (fault ≡ Memory) ⊎ IsRecordsFault rule (width + 1) (records_of text) fault → (fault ≡ Memory) ⊎ IsHeadedFault rule text width number fault
  either_fault number fault (inl m) = inl m
  either_fault number fault (inr f) = inr (inl f)
