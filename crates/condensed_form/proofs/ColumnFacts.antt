-- What runs of small numbers fit, and matrices filled by columns.
use Rattle.std.proofs.Common.{◌≡◌, inl, inr, ◌≢◌, ℕ, zero, suc, ◌+◌, ◌<◌, ◌≤◌, ℤ, pos, List, [], length, set, replicate, below_more, arith, ◌∙◌, refl}
use Rattle.std.proofs.lemmas.Bool.{cases_eq}
use Rattle.std.proofs.lemmas.List.{length-set, length-replicate, get_or-replicate, get_or-set_other, get_or-set_same}
use Rattle.integer_algebra.specs.Sums.{at}
use Rattle.mat_int.specs.Matrix.{Matrix, row_of, entry_of, with_entry, zero_matrix}
use Rattle.qp_model.specs.problem.Runs.{Holds}
use Rattle.condensed_form.specs.Lists.{HoldsMatrix, with_column}

-- a number of a list of zeros
pub zeros : (n i : ℕ) → at (replicate n (pos 0)) i ≡ pos 0
zeros zero i = refl
zeros (suc n) zero = refl
zeros (suc n) (suc i) = zeros n i

-- ---- columns
pub zero_holds : (height width : ℕ) (f : ℕ → ℕ → ℤ) → HoldsMatrix (zero_matrix height width) height width 0 f
zero_holds height width f = record {
  long = length-replicate height (replicate width (pos 0));
  wide = refl;
  regular = λ i l. rw (get_or-replicate height i (replicate width (pos 0)) [] l) (length-replicate width (pos 0));
  is = λ i j l k. absurd (omega arith);
}

-- a matrix whose column j is being written, up to row i
record Writing (m : Matrix) (height width j i : ℕ) (f : ℕ → ℕ → ℤ) : Type 0 where
  long : length m.rows ≡ height
  wide : m.cols ≡ width
  regular : (k : ℕ) → k < height → length (row_of m k) ≡ width
  before : (k l : ℕ) → k < height → l < j → entry_of m k l ≡ f k l
  here : (k : ℕ) → k < i → entry_of m k j ≡ f k j

write : (m : Matrix) (height width j i : ℕ) (f : ℕ → ℕ → ℤ) (v : ℤ) → v ≡ f i j → i < height → j < width →
    Writing m height width j i f → Writing (with_entry m i j v) height width j (suc i) f
write m height width j i f v e h k w = record {
  long = length-set m.rows i (set (row_of m i) j v) ∙ w.long;
  wide = w.wide;
  regular = λ a l. elim (cases_eq a i) [
    | inl o ↦ rw (o, row_same) (length-set (row_of m i) j v ∙ w.regular i h)
    | inr o ↦ rw (row_other a o) (w.regular a l)
  ];
  before = λ a l p q. elim (cases_eq a i) [
    | inl o ↦ (let ne : l ≢ j = omega arith in rw (o, row_same) (get_or-set_other (row_of m i) j l v (pos 0) ne ∙ w.before i l h q))
    | inr o ↦ rw (row_other a o) (w.before a l p q)
  ];
  here = λ a l. elim (cases_eq a i) [
    | inl o ↦ rw (o, row_same) (get_or-set_same (row_of m i) j v (pos 0) (omega (arith, w.regular i h)) ∙ e)
    | inr o ↦ rw (row_other a o) (w.here a (omega arith))
  ];
}
  where
    row_same : row_of (with_entry m i j v) i ≡ set (row_of m i) j v
    row_same = get_or-set_same m.rows i (set (row_of m i) j v) [] (omega (arith, w.long))

    row_other : (a : ℕ) → a ≢ i → row_of (with_entry m i j v) a ≡ row_of m a
    row_other a o = get_or-set_other m.rows i a (set (row_of m i) j v) [] o

written : (m : Matrix) (height width j n : ℕ) (f : ℕ → ℕ → ℤ) (xs : List ℤ) → n ≤ height → j < width → Holds xs height (λ i. f i j) →
    HoldsMatrix m height width j f → Writing (with_column n m j xs) height width j n f
written m height width j zero f xs h k x w = record { long = w.long; wide = w.wide; regular = w.regular; before = w.is; here = λ i l. absurd (omega arith) }
written m height width j (suc n) f xs h k x w =
    write (with_column n m j xs) height width j n f (at xs n) (x.is n (omega arith)) (omega arith) k (written m height width j n f xs (omega arith) k x w)

-- the shape stays
pub column_height : (n : ℕ) (m : Matrix) (j : ℕ) (xs : List ℤ) → length (with_column n m j xs).rows ≡ length m.rows
column_height zero m j xs = refl
column_height (suc n) m j xs = length-set (with_column n m j xs).rows n (set (row_of (with_column n m j xs) n) j (at xs n)) ∙ column_height n m j xs

pub column_width : (n : ℕ) (m : Matrix) (j : ℕ) (xs : List ℤ) → (with_column n m j xs).cols ≡ m.cols
column_width zero m j xs = refl
column_width (suc n) m j xs = column_width n m j xs

-- a matrix after its next column was written
pub column_written : (m new : Matrix) (height width j n : ℕ) (f : ℕ → ℕ → ℤ) (xs : List ℤ) → new ≡ with_column n m j xs → n ≡ height → j < width →
    Holds xs height (λ i. f i j) → HoldsMatrix m height width j f → HoldsMatrix new height width (j + 1) f
column_written m new height width j n f xs e s k x h = rw (e, s) (let w = written m height width j height f xs (omega arith) k x h in record {
  long = w.long;
  wide = w.wide;
  regular = w.regular;
  is = λ i l a b. below_more (λ (o : ℕ). entry_of (with_column height m j xs) i o ≡ f i o) j (λ o p. w.before i o a p) (w.here i a) l b;
})
