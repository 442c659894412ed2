-- Forms that agree number by number have the same systems.
use Rattle.std.proofs.Common.{◌≡◌, inl, inr, ℕ, ◌+◌, ◌-◌, ◌*◌, ◌^◌, ◌<◌, ℤ, ◌*ℤ◌, unsigned_abs, nat_lt, ◌==◌, if◌then◌else◌, arith, ap, refl}
use Rattle.std.proofs.lemmas.Bool.{cases_lt}
use Rattle.std.proofs.lemmas.Bool.Decides.{nat_tests}
use Rattle.integer_algebra.specs.Division.{ceil_div}
use Rattle.integer_algebra.specs.Sizes.{size}
use Rattle.integer_algebra.specs.Sums.{image}
use Rattle.integer_algebra.proofs.SizeLaws.{size_same}
use Rattle.integer_algebra.proofs.SumLaws.{total_same}
use Rattle.qp_model.specs.form.Form.{Form, HaveSameNumbers}
use Rattle.qp_model.specs.form.Columns.{columns, column_bound, column_size, descent_size, solve_matrix, solve_column}
use Rattle.qp_model.specs.form.GoodSolution.{IsGood}
use Rattle.qp_model.specs.form.Quantities.{greatest}
use Rattle.qp_model.proofs.SizeFacts.{greatest_same}

-- ---- a choice by an index, part by part
choose_equal : (i n : ℕ) (a b e x y z : ℤ) → (i < n → a ≡ x) → (i ≡ n → b ≡ y) → (n < i → e ≡ z) →
    (if nat_lt i n then a else if i == n then b else e) ≡ (if nat_lt i n then x else if i == n then y else z)
choose_equal i n a b e x y z p q r = elim (cases_lt i n) [
  | inl l ↦ (let h = p l in grind (arith, nat_tests))
  | inr l ↦ elim (cases_lt n i) [
    | inl m ↦ (let h = r m in grind (arith, nat_tests))
    | inr m ↦ (let same : i ≡ n = omega arith in let h = q same in grind (arith, nat_tests))
  ]
]

-- ---- counts that are equal
size_over : (m n : ℕ) (f g : ℕ → ℤ) → m ≡ n → ((i : ℕ) → i < n → f i ≡ g i) → size m f ≡ size n g
size_over m n f g e h = rw e (size_same n f g h)

greatest_over : (m n : ℕ) (f g : ℕ → ℕ) → m ≡ n → ((i : ℕ) → i < n → f i ≡ g i) → greatest m f ≡ greatest n g
greatest_over m n f g e h = rw e (greatest_same n f g h)

-- ---- forms that agree
module _ (h k : Form) (same : HaveSameNumbers h k) where
  pub count_same : columns h ≡ columns k
  count_same = omega (arith, same.states, same.rows)

  pub matrix_same : (i j : ℕ) → i < k.entries → j < k.entries → solve_matrix h i j ≡ solve_matrix k i j
  matrix_same i j l m = scaled _ _ _ _ same.matrix_factor (same.hessian i j l m)
    where
      scaled : (k m x y : ℤ) → k ≡ m → x ≡ y → k *ℤ x ≡ m *ℤ y
      scaled k m x y e g = rw (e, g) refl

  pub column_is : (i j : ℕ) → i < columns k → j < k.entries → solve_column h i j ≡ solve_column k i j
  column_is i j l m = rw (same.states, same.matrix_factor, same.row_factor) (choose_equal i k.states _ _ _ _ _ _
      (λ o. ap (λ (z : ℤ). k.matrix_factor *ℤ z) (same.linear j i m o))
      (λ o. ap (λ (z : ℤ). k.matrix_factor *ℤ z) (same.constant j m))
      (λ o. ap (λ (z : ℤ). k.row_factor *ℤ z) (same.by_plan (i - (k.states + 1)) j (omega arith) m)))

  column_size_same : (i : ℕ) → i < columns k → column_size h i ≡ column_size k i
  column_size_same i l = size_over _ _ (solve_column h i) (solve_column k i) same.entries (λ j m. column_is i j l m)

  pub column_bound_same : (f i : ℕ) → i < columns k → column_bound h f i ≡ column_bound k f i
  column_bound_same f i l = bounded _ _ _ _ f (column_size_same i l) same.floor
    where
      bounded : (x y : ℕ) (a b : ℤ) (f : ℕ) → x ≡ y → a ≡ b → ceil_div (2 ^ (f + 1) * x) (unsigned_abs a) ≡ ceil_div (2 ^ (f + 1) * y) (unsigned_abs b)
      bounded x y a b f e g = rw (e, g) refl

  pub descent_same : (f : ℕ) → descent_size h f ≡ descent_size k f
  descent_same f = joined _ _ _ _ _ _ f
      (greatest_over _ _ (λ j. size h.entries (solve_matrix h j)) (λ j. size k.entries (solve_matrix k j)) same.entries
      (λ i l. size_over _ _ (solve_matrix h i) (solve_matrix k i) same.entries (λ j m. matrix_same i j l m)))
      (greatest_over _ _ (column_bound h f) (column_bound k f) count_same (λ i l. column_bound_same f i l))
      (greatest_over _ _ (column_size h) (column_size k) count_same (λ i l. column_size_same i l))
    where
      joined : (a b c x y z f : ℕ) → a ≡ x → b ≡ y → c ≡ z → 2 * a * (b + 1) + 2 ^ (f + 1) * c ≡ 2 * x * (y + 1) + 2 ^ (f + 1) * z
      joined a b c x y z f e g i = rw (e, g, i) refl

  pub image_is : (x : ℕ → ℤ) (j : ℕ) → j < k.entries → image h.entries (solve_matrix h) x j ≡ image k.entries (solve_matrix k) x j
  image_is x j o = rw same.entries (total_same k.entries _ _ (λ l m. ap (λ (z : ℤ). z *ℤ x l) (matrix_same j l o m)))

  -- solutions for the second are solutions for the first
  pub solutions_same : (f i : ℕ) (x : ℕ → ℤ) → i < columns k → IsGood k.entries (solve_matrix k) f (solve_column k i) x → IsGood h.entries (solve_matrix h) f (solve_column h i) x
  solutions_same f i x l good = λ j m. (let o : j < k.entries = omega (arith, m, same.entries) in
      rw (matrix_same j j o o, column_is i j l o, image_is x j o) (good j o))
