-- The plans of a part of a text's records, one by one.
use Rattle.std.proofs.Common.{◌≡◌, ◌⊎◌, inl, inr, ℕ, ◌+◌, ◌-◌, ◌<◌, ◌≤◌, ◌^◌, ℤ, pos, List, [], ◌∷◌, ◌++◌, length, map, get_or, drop, refl, ap, subst, arith}
use Rattle.std.proofs.lemmas.List.{get_or_append_left, get_or_push, get_or_default}
use Rattle.integer_algebra.specs.Sums.{at}
use Rattle.csv.specs.Records.{Row, fields_of}
use Rattle.mat_int.specs.Matrix.{Matrix, row_of}
use Rattle.number_text.specs.declared.text_fault.TextFault.{TextFault}
use Rattle.number_text.specs.declared.text_fault.TextFault.TheVariants.{Memory, Count}
use Rattle.qp_model.specs.problem.Design.{Design, entries}
use Rattle.qp_model.specs.problem.Policy.{Plans}
use Rattle.policy_file.specs.Records.{HoldsNumbers, IsRecordFault, record_at, records_of}
use Rattle.policy_file.specs.PolicyText.{policy_rule, record_length}
use Rattle.policy_file.proofs.RecordFacts.{records_few}
use Rattle.policy_file.proofs.TextFacts.{records_count, room_small}
use Rattle.policy_file.proofs.MatrixFacts.{Filled, row_pushed}
use Rattle.cell_split.specs.PoliciesText.{HoldPlans}
use Rattle.cell_split.specs.ReadCells.{AreReadable, HoldBetween, IsFaultBetween, IsCounted, IsLeftFault}

-- the records of a text that is no longer than a file may be
pub readable : (records : List Row) (bytes : List ℕ) → map fields_of records ≡ records_of bytes → length bytes < 2 ^ 32 → AreReadable records
readable records bytes e small = record {
  few = omega (arith, records_count records bytes e, records_few bytes, small);
  room = λ i row lt. room_small records bytes (get_or records i row) i e small lt (get_or_default records i row (get_or records i row) lt);
}

-- a list is its first number and those behind it
first_and_rest : (zs : List ℤ) → 1 ≤ length zs → at zs 0 ∷ drop 1 zs ≡ zs
first_and_rest [] l = absurd (omega (arith, l))
first_and_rest (z ∷ zs) l = refl

module _ (rows : List (List (List ℕ))) (d : Design) (start : ℕ) where
  -- what each record so far holds
  abbrev pub HoldsAt : List ℤ → ℕ → List ℤ → Type 0
  HoldsAt heads e xs = HoldsNumbers policy_rule (record_length d) (record_at rows (start + e)) (at heads e ∷ xs)

  -- with one more
  pub plan_more : (i : ℕ) (heads more : List ℤ) (z : ℤ) (m new : Matrix) (zs : List ℤ) → more ≡ heads ++ z ∷ [] → z ≡ at zs 0 → length heads ≡ i →
      HoldsNumbers policy_rule (record_length d) (record_at rows (start + i)) zs → new ≡ record m { rows = m.rows ++ drop 1 zs ∷ [] } →
      Filled (HoldsAt heads) m (entries d) i → Filled (HoldsAt more) new (entries d) (i + 1)
  plan_more i heads more z m new zs n f l here e h =
      row_pushed (HoldsAt more) m new (entries d) i (drop 1 zs) e
      (rw (n, get_or_push heads z (pos 0) i l, f, first_and_rest zs (omega (arith, here.numbers))) here)
      (record {
        long = h.long;
        cols = h.cols;
        each = λ k m. rw (n, get_or_append_left heads (z ∷ []) (pos 0) k (omega (arith, l))) (h.each k m);
      })

  held_between : (i : ℕ) (heads : List ℤ) (m : Matrix) → ((e : ℕ) → e < i → HoldsAt heads e (row_of m e)) → HoldBetween rows d start (start + i)
  held_between i heads m h e low high =
      let place : start + (e - start) ≡ e = omega (arith, low) in
      (at heads (e - start) ∷ row_of m (e - start), subst (λ (j : ℕ). HoldsNumbers policy_rule (record_length d) (record_at rows j) (at heads (e - start) ∷ row_of m (e - start))) place (h (e - start) (omega (arith, low, high))))

  -- the first that is wrong
  pub between_fault : (number i : ℕ) (heads : List ℤ) (m : Matrix) (fault : TextFault) → i < number → start + i < length rows → ((e : ℕ) → e < i → HoldsAt heads e (row_of m e)) →
      (fault ≡ Memory) ⊎ IsRecordFault policy_rule (record_length d) (start + i + 1) (record_at rows (start + i)) fault → (fault ≡ Memory) ⊎ IsFaultBetween rows d start number fault
  between_fault number i heads m fault lt inside h (inl memory) = inl memory
  between_fault number i heads m fault lt inside h (inr f) = inr (record {
    index = start + i;
    low = omega arith;
    high = omega (arith, lt);
    inside = inside;
    before = held_between i heads m h;
    here = f;
  })

  -- too few of them, or too many
  pub counted : (number n : ℕ) (plans : Plans) → start + number ≡ length rows → n ≡ length rows → HoldPlans rows d start number plans → IsCounted rows d start (Count n)
  counted number n plans all is h = record {
    each = λ e low high. held_between number plans.denominators plans.numerators h.each e low (omega (arith, high, all));
    told = ap Count is;
  }

  pub left_wrong : (number : ℕ) (fault : TextFault) → start + number ≡ length rows → (fault ≡ Memory) ⊎ IsFaultBetween rows d start number fault → (fault ≡ Memory) ⊎ IsLeftFault rows d start fault
  left_wrong number fault all (inl memory) = inl memory
  left_wrong number fault all (inr f) =
      inr (inl (record { index = f.index; low = f.low; high = omega (arith, f.inside); inside = f.inside; before = f.before; here = f.here }))
