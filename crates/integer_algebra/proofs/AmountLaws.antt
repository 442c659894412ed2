-- Sums of naturals compared.
use Rattle.std.proofs.Common.{◌≡◌, ℕ, zero, suc, ◌*◌, ◌<◌, ◌≤◌, arith, refl}
use Rattle.integer_algebra.specs.Sizes.{amount}

-- the greater the terms, the greater the sum
pub amount_mono : (n : ℕ) (f g : ℕ → ℕ) → ((i : ℕ) → i < n → f i ≤ g i) → amount n f ≤ amount n g
amount_mono zero f g h = omega arith
amount_mono (suc n) f g h = omega (arith, amount_mono n f g (λ i l. h i (omega arith)), h n (omega arith))

-- a sum of terms that are at most b
pub amount_most : (n : ℕ) (f : ℕ → ℕ) (b : ℕ) → ((i : ℕ) → i < n → f i ≤ b) → amount n f ≤ n * b
amount_most zero f b h = omega arith
amount_most (suc n) f b h = omega (arith, amount_most n f b (λ i l. h i (omega arith)), h n (omega arith))

-- a sum of terms with one factor
pub amount_scale : (n x : ℕ) (f : ℕ → ℕ) → amount n (λ i. x * f i) ≡ x * amount n f
amount_scale zero x f = omega arith
amount_scale (suc n) x f = omega (arith, amount_scale n x f)

-- a sum of zeros
pub amount_none : (n : ℕ) (f : ℕ → ℕ) → ((i : ℕ) → i < n → f i ≡ 0) → amount n f ≡ 0
amount_none zero f h = refl
amount_none (suc n) f h = omega (arith, amount_none n f (λ i l. h i (omega arith)), h n (omega arith))
