-- Matrices by their entries.
use Rattle.std.proofs.Common.{◌≡◌, ◌≢◌, inl, inr, ℕ, ◌<◌, ℤ, pos, List, [], length, map, get_or, get_or-set_other, get_or-set_same, slice_set, arith, ap, ◌∙◌}
use Rattle.std.specs.Prelude.{All}
use Rattle.std.specs.List.{range_with_len}
use Rattle.std.proofs.lemmas.Bool.{cases_eq}
use Rattle.std.proofs.lemmas.List.{get_or-map, length-map, length-set}
use Rattle.std.proofs.lemmas.List.Elements.{All-map, All-set}
use Rattle.std.proofs.lemmas.List.FromFn.{length-map-range_with_len, get_or-map-range_with_len}
use Rattle.integer_algebra.specs.Sums.{at}
use Rattle.mat_int.specs.Matrix.{Matrix, row_of, column_of, entry_of, transpose_of, with_entry, HasEntries}

-- the matrix of the columns of another is its transpose
pub columns_are : (m t : Matrix) → t.cols ≡ length m.rows → t.rows ≡ map (column_of m) (range_with_len 0 m.cols) →
    HasEntries m.cols (length m.rows) (transpose_of m) t
columns_are m t e f = record {
  rows = ap length f ∙ length-map-range_with_len (column_of m) 0 m.cols;
  cols = e;
  even = rw f (All-map (λ row. length row ≡ length m.rows) (column_of m) (range_with_len 0 m.cols) (λ k d h. length-map m.rows (λ row. get_or row (get_or (range_with_len 0 m.cols) k d) (pos 0))));
  entries = λ i j p q.
      ap (λ (rows : List (List ℤ)). get_or (get_or rows i []) j (pos 0)) f ∙
      ap (λ (row : List ℤ). get_or row j (pos 0)) (get_or-map-range_with_len (column_of m) 0 m.cols i i [] p (omega arith)) ∙
      get_or-map (λ row. get_or row i (pos 0)) m.rows j [] (pos 0) q;
}

-- ---- words that are equal in range
pub entries_same : (h w : ℕ) (f g : ℕ → ℕ → ℤ) (m : Matrix) → ((i j : ℕ) → i < h → j < w → f i j ≡ g i j) → HasEntries h w f m → HasEntries h w g m
entries_same h w f g m same k = record { rows = k.rows; cols = k.cols; even = k.even; entries = λ i j p q. k.entries i j p q ∙ same i j p q }

-- ---- a matrix in which an entry is written
row_here : (m : Matrix) (i j : ℕ) (v : ℤ) → i < length m.rows → row_of (with_entry m i j v) i ≡ slice_set (row_of m i) j v
row_here m i j v l = get_or-set_same m.rows i (slice_set (row_of m i) j v) [] l

-- the entry itself
pub entry_here : (m : Matrix) (i j : ℕ) (v : ℤ) → i < length m.rows → j < length (row_of m i) → entry_of (with_entry m i j v) i j ≡ v
entry_here m i j v l k = ap (λ (row : List ℤ). at row j) (row_here m i j v l) ∙ get_or-set_same (row_of m i) j v (pos 0) k

-- entries of other columns
pub entry_beside : (m : Matrix) (i j a b : ℕ) (v : ℤ) → b ≢ j → i < length m.rows → entry_of (with_entry m i j v) a b ≡ entry_of m a b
entry_beside m i j a b v ne l = elim (cases_eq a i) [
  | inl e ↦ rw e (ap (λ (row : List ℤ). at row b) (row_here m i j v l) ∙ get_or-set_other (row_of m i) j b v (pos 0) ne)
  | inr e ↦ ap (λ (row : List ℤ). at row b) (get_or-set_other m.rows i a _ [] e)
]

-- entries of other rows
pub entry_elsewhere : (m : Matrix) (i j a b : ℕ) (v : ℤ) → a ≢ i → entry_of (with_entry m i j v) a b ≡ entry_of m a b
entry_elsewhere m i j a b v ne = ap (λ (row : List ℤ). at row b) (get_or-set_other m.rows i a _ [] ne)

-- the rows' length stays
pub even_kept : (m : Matrix) (width i j : ℕ) (v : ℤ) → All (λ row. length row ≡ width) m.rows → i < length m.rows →
    All (λ row. length row ≡ width) (with_entry m i j v).rows
even_kept m width i j v even l =
    All-set (λ row. length row ≡ width) m.rows i (slice_set (row_of m i) j v) (length-set (row_of m i) j v ∙ even i [] l) even
