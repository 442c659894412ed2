-- A square matrix that is filled row by row.
use Rattle.std.proofs.Common.{◌≡◌, ◌≢◌, inl, inr, ℕ, ◌+◌, ◌<◌, ◌≤◌, [], ℤ, pos, length, replicate, arith, ◌∙◌, refl, get_or-set_other, get_or-set_same, slice_set}
use Rattle.std.specs.Prelude.{All}
use Rattle.std.proofs.lemmas.Bool.{cases_lt, cases_eq}
use Rattle.std.proofs.lemmas.List.{length-set, length-replicate, get_or-replicate}
use Rattle.std.proofs.lemmas.List.Elements.{All-get_or, All-from_get_or}
use Rattle.mat_int.specs.Matrix.{Matrix, row_of, entry_of, with_entry, zero_matrix}
use Rattle.mat_int.specs.Matrix.{HasEntries}
use Rattle.mat_int.specs.Enclosures.{HasEnclosures}
use Rattle.frac_scaled.specs.Enclosures.{Enclosure}
use Rattle.hessian_check.specs.Filling.{HasFirstEnclosures, HasFirstEntries, HasFirstMoved, HasFirstRows, HasPartEnclosures}
use Rattle.hessian_check.specs.Recipe.{IsEntryWritten}
use Rattle.hessian_check.proofs.StepLaws.{written}

even_set : (m : Matrix) (n i j : ℕ) (v : ℤ) → i < length m.rows → All (λ row. length row ≡ n) m.rows → All (λ row. length row ≡ n) (with_entry m i j v).rows
even_set m n i j v p h = All-from_get_or (λ row. length row ≡ n) (with_entry m i j v).rows [] (λ a l. elim (cases_eq a i) [
  | inl e ↦ rw (e, get_or-set_same m.rows i _ [] p, length-set) (All-get_or (λ row. length row ≡ n) m.rows i [] p h)
  | inr e ↦ rw (get_or-set_other m.rows i a _ [] e) (All-get_or (λ row. length row ≡ n) m.rows a [] (let q = length-set m.rows i (slice_set (row_of m i) j v) in omega (arith, l, q)) h)
])

-- zeros
pub first_zero : (n : ℕ) (f : ℕ → ℕ → ℤ) (w : Matrix) → w ≡ zero_matrix n n → HasFirstRows n f w 0
first_zero n f w e = rw e (record {
  rows = length-replicate n (replicate n (pos 0));
  cols = refl;
  even = All-from_get_or (λ row. length row ≡ n) (replicate n (replicate n (pos 0))) [] (λ a l.
      rw (get_or-replicate n a (replicate n (pos 0)) [] (let q = length-replicate n (replicate n (pos 0)) in omega (arith, q, l))) (length-replicate n (pos 0)));
  made = λ k j l. absurd (omega arith);
})

pub first_start : (n : ℕ) (f : ℕ → ℕ → ℤ) (m : Matrix) (i : ℕ) → HasFirstRows n f m i → HasFirstEntries n f m i 0
first_start n f m i h = record { before = h; here = λ k l. absurd (omega arith) }

-- one more entry
pub first_more : (n : ℕ) (f : ℕ → ℕ → ℤ) (m w : Matrix) (i j : ℕ) (v : ℤ) → i < n → j < n → w ≡ with_entry m i j v → v ≡ f i j →
    HasFirstEntries n f m i j → HasFirstEntries n f w i (j + 1)
first_more n f m w i j v p q e g h =
    let row : i < length m.rows = omega (arith, h.before.rows, p) in
    let long = All-get_or (λ row. length row ≡ n) m.rows i [] row h.before.even in
    let t : IsEntryWritten (entry_of m) (entry_of (with_entry m i j v)) i j v = written m i j v row (omega (arith, long, q)) in
    rw e (record {
      before = record {
        rows = length-set m.rows i _ ∙ h.before.rows;
        cols = h.before.cols;
        even = even_set m n i j v row h.before.even;
        made = λ k l o y. t.elsewhere k l (omega arith) ∙ h.before.made k l o y;
      };
      here = λ k l. elim (cases_lt k j) [
        | inl o ↦ t.beside k (omega arith) ∙ h.here k o
        | inr o ↦ (let y : k ≡ j = omega arith in rw y (t.here ∙ g))
      ];
    })

-- one more row
pub first_row : (n : ℕ) (f : ℕ → ℕ → ℤ) (m : Matrix) (i j : ℕ) → n ≤ j → HasFirstEntries n f m i j → HasFirstRows n f m (i + 1)
first_row n f m i j q h = record {
  rows = h.before.rows;
  cols = h.before.cols;
  even = h.before.even;
  made = λ k l o y. elim (cases_lt k i) [
    | inl t ↦ h.before.made k l t y
    | inr t ↦ (let e : k ≡ i = omega arith in rw e (h.here l (omega arith)))
  ];
}

pub first_all : (n : ℕ) (f : ℕ → ℕ → ℤ) (m : Matrix) (i : ℕ) → n ≤ i → HasFirstRows n f m i → HasEntries n n f m
first_all n f m i q h = record { rows = h.rows; cols = h.cols; even = h.even; entries = λ k j l o. h.made k j (omega arith) o }

-- ---- a matrix whose diagonal is moved
pub moved_start : (n : ℕ) (f : ℕ → ℕ → ℤ) (m : Matrix) → length m.rows ≡ n → m.cols ≡ n → All (λ row. length row ≡ n) m.rows → HasFirstMoved n f (entry_of m) m 0
moved_start n f m r c e = record {
  first = record { rows = r; cols = c; even = e; made = λ k j l. absurd (omega arith) };
  rest = λ k j l o q. refl;
}

-- one more entry
pub moved_more : (n : ℕ) (f old : ℕ → ℕ → ℤ) (m w : Matrix) (i : ℕ) (v : ℤ) → i < n → w ≡ with_entry m i i v → v ≡ f i i → ((j : ℕ) → j ≢ i → old i j ≡ f i j) →
    HasFirstMoved n f old m i → HasFirstMoved n f old w (i + 1)
moved_more n f old m w i v p e g b h =
    let row : i < length m.rows = omega (arith, h.first.rows, p) in
    let long = All-get_or (λ row. length row ≡ n) m.rows i [] row h.first.even in
    let t : IsEntryWritten (entry_of m) (entry_of (with_entry m i i v)) i i v = written m i i v row (omega (arith, long, p)) in
    rw e (record {
      first = record {
        rows = length-set m.rows i _ ∙ h.first.rows;
        cols = h.first.cols;
        even = even_set m n i i v row h.first.even;
        made = λ k j l o. elim (cases_lt k i) [
          | inl y ↦ t.elsewhere k j (omega arith) ∙ h.first.made k j y o
          | inr y ↦ (let z : k ≡ i = omega arith in rw z (elim (cases_eq j i) [
            | inl q ↦ rw q (t.here ∙ g)
            | inr q ↦ t.beside j q ∙ h.rest i j (omega arith) p o ∙ b j q
          ]))
        ];
      };
      rest = λ k j l o q. t.elsewhere k j (omega arith) ∙ h.rest k j (omega arith) o q;
    })

pub moved_all : (n : ℕ) (f old : ℕ → ℕ → ℤ) (m : Matrix) (i : ℕ) → n ≤ i → HasFirstMoved n f old m i → HasEntries n n f m
moved_all n f old m i q h = first_all n f m i q h.first

-- ---- matrices of enclosures
module _ (n : ℕ) (f : ℕ → ℕ → Enclosure) where
  abbrev mid_of : ℕ → ℕ → ℤ
  mid_of i j = (f i j).mid

  abbrev rad_of : ℕ → ℕ → ℤ
  rad_of i j = (f i j).rad

  pub enclosures_zero : (m r : Matrix) → m ≡ zero_matrix n n → r ≡ zero_matrix n n → HasFirstEnclosures n f m r 0
  enclosures_zero m r e g = record { mids = first_zero n mid_of m e; rads = first_zero n rad_of r g }

  pub enclosures_start : (m r : Matrix) (i : ℕ) → HasFirstEnclosures n f m r i → HasPartEnclosures n f m r i 0
  enclosures_start m r i h = record { mids = first_start n mid_of m i h.mids; rads = first_start n rad_of r i h.rads }

  -- one more entry
  pub enclosures_more : (m r w q : Matrix) (i j : ℕ) (u v : ℤ) → i < n → j < n → w ≡ with_entry m i j u → q ≡ with_entry r i j v → u ≡ (f i j).mid → v ≡ (f i j).rad →
      HasPartEnclosures n f m r i j → HasPartEnclosures n f w q i (j + 1)
  enclosures_more m r w q i j u v k l e g a b h = record {
    mids = first_more n mid_of m w i j u k l e a h.mids;
    rads = first_more n rad_of r q i j v k l g b h.rads;
  }

  -- one more row
  pub enclosures_row : (m r : Matrix) (i j : ℕ) → n ≤ j → HasPartEnclosures n f m r i j → HasFirstEnclosures n f m r (i + 1)
  enclosures_row m r i j k h = record { mids = first_row n mid_of m i j k h.mids; rads = first_row n rad_of r i j k h.rads }

  pub enclosures_all : (m r : Matrix) (i : ℕ) → n ≤ i → HasFirstEnclosures n f m r i → HasEnclosures n n f m r
  enclosures_all m r i k h = record { mids = first_all n mid_of m i k h.mids; rads = first_all n rad_of r i k h.rads }
