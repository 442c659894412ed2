-- Sums of numbers with radii, each at its farthest: the sum of the numbers and that of the radii together.
use Rattle.std.proofs.Common.{◌≡◌, ℕ, zero, suc, ◌+◌, ◌<◌, ◌≤◌, ℤ, unsigned_abs, arith, ◌∙◌, refl}
use Rattle.integer_algebra.specs.Sizes.{size, amount}
use Rattle.integer_algebra.proofs.SizeLaws.{amount_same, amount_term}
use Rattle.integer_algebra.proofs.AmountLaws.{amount_mono}
use Rattle.qp_model.specs.form.Form.{farthest}

amount_add : (n : ℕ) (f g : ℕ → ℕ) → amount n (λ i. f i + g i) ≡ amount n f + amount n g
amount_add zero f g = refl
amount_add (suc n) f g = omega (arith, amount_add n f g)

-- of a list
pub list_apart : (n : ℕ) (f r : ℕ → ℤ) → amount n (λ j. farthest (f j) (unsigned_abs (r j))) ≡ size n f + size n r
list_apart n f r = amount_add n (λ j. unsigned_abs (f j)) (λ j. unsigned_abs (r j))

-- of a matrix
pub matrix_apart : (m n : ℕ) (f r : ℕ → ℕ → ℤ) →
    amount m (λ i. amount n (λ j. farthest (f i j) (unsigned_abs (r i j)))) ≡ amount m (λ i. size n (f i)) + amount m (λ i. size n (r i))
matrix_apart m n f r = amount_same m _ _ (λ i l. list_apart n (f i) (r i)) ∙ amount_add m (λ i. size n (f i)) (λ i. size n (r i))

-- ---- the radii are a part
pub radius_within : (z r : ℤ) → unsigned_abs r ≤ farthest z (unsigned_abs r)
radius_within z r = omega arith

pub radii_within : (n : ℕ) (f r : ℕ → ℤ) → size n r ≤ amount n (λ j. farthest (f j) (unsigned_abs (r j)))
radii_within n f r = amount_mono n _ _ (λ j l. radius_within (f j) (r j))

pub all_within : (m n : ℕ) (f r : ℕ → ℕ → ℤ) → amount m (λ i. size n (r i)) ≤ amount m (λ i. amount n (λ j. farthest (f i j) (unsigned_abs (r i j))))
all_within m n f r = amount_mono m _ _ (λ i l. radii_within n (f i) (r i))

-- those of a column are
pub column_within : (m n j : ℕ) (f r : ℕ → ℕ → ℤ) → j < n →
    size m (λ i. r i j) ≤ amount m (λ i. amount n (λ j. farthest (f i j) (unsigned_abs (r i j))))
column_within m n j f r h = amount_mono m _ _ (λ i l. through (radius_within (f i j) (r i j)) (amount_term j n (λ j. farthest (f i j) (unsigned_abs (r i j))) h))
  where
    through : {a b c : ℕ} → a ≤ b → b ≤ c → a ≤ c
    through {a} {b} {c} h k = omega (arith, h, k)
