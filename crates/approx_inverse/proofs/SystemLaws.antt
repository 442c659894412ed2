-- Lists that are multiplied, and their absolute sums.
use Rattle.integer_algebra.proofs.Quoting.{by_ring, quotes}
use Rattle.std.proofs.Common.{refl, sym, ap, ◌∙◌, [], ◌∷◌, ◌++◌, List, length, get_or, ◌≡◌, inl, inr, ℕ, zero, suc, ◌+◌, ◌-◌, ◌^◌, ◌<◌, ◌≤◌, ℤ, pos, ◌*ℤ◌, ◌≤ℤ◌, unsigned_abs, arith}
use Rattle.std.proofs.lemmas.Int.{ints, unsigned_abs-mul}
use Rattle.std.proofs.lemmas.Bool.{cases_lt}
use Rattle.std.proofs.lemmas.Bool.Decides.{nat_tests}
use Rattle.std.proofs.lemmas.List.{get_or_append_left, get_or_push}
use Rattle.integer_algebra.specs.Sums.{at}
use Rattle.mat_int.specs.Matrix.{Matrix, entry_of}
use Rattle.qp_model.specs.form.Form.{Form}
use Rattle.qp_model.specs.form.Columns.{solve_matrix, solve_column}
use Rattle.std.proofs.Math.Nat.{mul-le-mul_right}
use Rattle.integer_algebra.specs.Sizes.{size}
use Rattle.integer_algebra.proofs.SizeLaws.{at_size, size_same}

-- one number that is too large
pub wide_at : (n : ℕ) (f : ℕ → ℤ) (j : ℕ) → j < n → (unsigned_abs (f j) ≤ 2 ^ 126 → ⊥) → 2 ^ 126 < size n f
wide_at n f j l over = elim (cases_lt (2 ^ 126) (unsigned_abs (f j))) [
  | inl o ↦ omega (arith, at_size j n f l)
  | inr o ↦ absurd (over o)
]

-- multiples are not smaller
pub size_scaled : (n : ℕ) (k : ℤ) (f : ℕ → ℤ) → pos 1 ≤ℤ k → size n f ≤ size n (λ j. k *ℤ f j)
size_scaled zero k f h = omega arith
size_scaled (suc n) k f h =
    omega (arith, size_scaled n k f h, unsigned_abs-mul k (f n), mul-le-mul_right (unsigned_abs (f n)) (one k h))
  where
    one : (z : ℤ) → pos 1 ≤ℤ z → 1 ≤ unsigned_abs z
    one z h = omega (arith, ints)

-- a list that was already too large
pub wide_scaled : (n : ℕ) (k : ℤ) (f : ℕ → ℤ) → pos 1 ≤ℤ k → 2 ^ 126 < size n f → 2 ^ 126 < size n (λ j. k *ℤ f j)
wide_scaled n k f h w = omega (arith, w, size_scaled n k f h)

-- a list that is too large is so under another name
pub wide_same : (n : ℕ) (f g : ℕ → ℤ) → 2 ^ 126 < size n f → ((j : ℕ) → j < n → f j ≡ g j) → 2 ^ 126 < size n g
wide_same n f g w e = rw (← (size_same n f g e)) w

-- four factors, one after the other
pub factors : (p r w g : ℤ) → p *ℤ (r *ℤ (r *ℤ (w *ℤ g))) ≡ p *ℤ (r *ℤ (r *ℤ w)) *ℤ g
factors p r w g = by_ring (p ∷ r ∷ w ∷ g ∷ []) (search quotes depth 60 fits 20000) refl

-- ---- the columns of a form
pub column_of_state : (h : Form) (i j : ℕ) → i < h.states → solve_column h i j ≡ h.matrix_factor *ℤ h.numbers.linear j i
column_of_state h i j l = grind (arith, nat_tests)

pub column_of_constant : (h : Form) (i j : ℕ) → i ≡ h.states → solve_column h i j ≡ h.matrix_factor *ℤ h.numbers.constant j
column_of_constant h i j l = grind (arith, nat_tests)

pub column_of_row : (h : Form) (i j : ℕ) → h.states < i → solve_column h i j ≡ h.row_factor *ℤ h.numbers.by_plan (i - (h.states + 1)) j
column_of_row h i j l = grind (arith, nat_tests)

-- one more row of the matrix
pub matrix_more : (h : Form) (old new : Matrix) (line : List ℤ) (i : ℕ) → new ≡ record old { rows = old.rows ++ line ∷ [] } → length old.rows ≡ i →
    ((k j : ℕ) → k < i → j < h.entries → entry_of old k j ≡ solve_matrix h k j) → ((j : ℕ) → j < h.entries → at line j ≡ solve_matrix h i j) →
    (k j : ℕ) → k < i + 1 → j < h.entries → entry_of new k j ≡ solve_matrix h k j
matrix_more h old new line i e long before here k j l m = elim (cases_lt k i) [
  | inl o ↦ ap (λ (rows : List (List ℤ)). get_or (get_or rows k []) j (pos 0)) (ap (λ (x : Matrix). x.rows) e) ∙
      ap (λ (row : List ℤ). at row j) (get_or_append_left old.rows (line ∷ []) [] k (omega arith)) ∙ before k j o m
  | inr o ↦ (let is : k ≡ i = omega arith in
      ap (λ (rows : List (List ℤ)). get_or (get_or rows k []) j (pos 0)) (ap (λ (x : Matrix). x.rows) e) ∙
      ap (λ (row : List ℤ). at row j) (get_or_push old.rows line [] k (omega arith)) ∙ here j m ∙ ap (λ (a : ℕ). solve_matrix h a j) (sym is))
]
