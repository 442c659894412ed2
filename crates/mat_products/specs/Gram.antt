-- The products of a matrix's columns, each row with a weight of at least 0.
use Rattle.std.specs.Prelude.{ℕ, ◌*◌, ℤ, ◌*ℤ◌, unsigned_abs}
use Rattle.integer_algebra.specs.Sums.{total}
use Rattle.integer_algebra.specs.Sizes.{amount}

-- ---- g' diag(weight) g
-- its entries, where g has m rows: the products of columns j and l, each times the weight of its row
abbrev pub weighted_gram_matrix : ℕ → (ℕ → ℤ) → (ℕ → ℕ → ℤ) → ℕ → ℕ → ℤ
weighted_gram_matrix m weight g j l = total m (λ i. weight i *ℤ (g i j *ℤ g i l))

-- the absolute values that such an entry adds up
abbrev pub weighted_gram_size : ℕ → (ℕ → ℤ) → (ℕ → ℕ → ℤ) → ℕ → ℕ → ℕ
weighted_gram_size m weight g j l = amount m (λ i. unsigned_abs (weight i) * (unsigned_abs (g i j) * unsigned_abs (g i l)))
