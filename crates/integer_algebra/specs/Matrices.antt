-- Matrices as functions of row and column.
use Rattle.std.specs.Prelude.{ℕ, ◌*◌, ◌<◌, ℤ, pos, ◌*ℤ◌, ◌≤ℤ◌, unsigned_abs, if◌then◌else◌, nat_eq}
use Rattle.integer_algebra.specs.Bounds.{absolute}
use Rattle.integer_algebra.specs.Sums.{total}
use Rattle.integer_algebra.specs.Sizes.{amount}

-- ---- a * b
-- the entries of the product of a, which has n columns, and b, which has n rows
abbrev pub matrix_product : ℕ → (ℕ → ℕ → ℤ) → (ℕ → ℕ → ℤ) → ℕ → ℕ → ℤ
matrix_product n a b i j = total n (λ k. a i k *ℤ b k j)

-- the absolute values that such an entry adds up
abbrev pub matrix_product_size : ℕ → (ℕ → ℕ → ℤ) → (ℕ → ℕ → ℤ) → ℕ → ℕ → ℕ
matrix_product_size n a b i j = amount n (λ k. unsigned_abs (a i k) * unsigned_abs (b k j))

-- ---- g'g
-- its entries, where g has m rows: the products of columns i and j
abbrev pub gram : ℕ → (ℕ → ℕ → ℤ) → ℕ → ℕ → ℤ
gram m g i j = total m (λ l. g l i *ℤ g l j)

-- the absolute values that such an entry adds up
abbrev pub gram_size : ℕ → (ℕ → ℕ → ℤ) → ℕ → ℕ → ℕ
gram_size m g i j = amount m (λ l. unsigned_abs (g l i) * unsigned_abs (g l j))

-- ---- diagonal dominance
-- the entries beside the diagonal in absolute value, and 0 on it
abbrev pub weight : (ℕ → ℕ → ℤ) → ℕ → ℕ → ℤ
weight a i j = if nat_eq j i then pos 0 else absolute (a i j)

-- the sum of the absolute values of the other entries of row i
abbrev pub off_diagonal_sum : ℕ → (ℕ → ℕ → ℤ) → ℕ → ℤ
off_diagonal_sum n a i = total n (weight a i)

-- each diagonal entry is at least that
abbrev pub IsDominant : ℕ → (ℕ → ℕ → ℤ) → Type 0
IsDominant n a = (i : ℕ) → i < n → off_diagonal_sum n a i ≤ℤ a i i
