-- How large the numbers of a descent can get.
use Rattle.std.specs.Prelude.{ℕ, ◌+◌, ◌*◌, ◌^◌, ◌<◌, ◌≤◌, ℤ, unsigned_abs}
use Rattle.integer_algebra.specs.Division.{ceil_div}
use Rattle.integer_algebra.specs.Sizes.{size}
use Rattle.qp_model.specs.form.Quantities.{greatest}

-- the greatest absolute sum of n rows of width numbers
abbrev pub greatest_row : ℕ → ℕ → (ℕ → ℕ → ℤ) → ℕ
greatest_row n width h = greatest n (λ i. size width (h i))

-- each of n entries is at most `bound` in absolute value
abbrev pub EachWithin : ℕ → (bound : ℕ) → (ℕ → ℤ) → Type 0
EachWithin n bound x = (j : ℕ) → j < n → unsigned_abs (x j) ≤ bound

-- what bounds the entries of a solution at f bits, for a column of n numbers
abbrev pub entry_bound : ℕ → (ℕ → ℤ) → ℤ → ℕ → ℕ
entry_bound n c floor f = ceil_div (2 ^ (f + 1) * size n c) (unsigned_abs floor)

-- what bounds the numbers of a descent: twice the greatest row times one more than the greatest entry, and twice the greatest aim
abbrev pub descent_sum : (row entry column f : ℕ) → ℕ
descent_sum row entry column f = 2 * row * (entry + 1) + 2 ^ (f + 1) * column

-- for a matrix and one column
abbrev pub descent_of_column : ℕ → (ℕ → ℕ → ℤ) → (ℕ → ℤ) → ℤ → ℕ → ℕ
descent_of_column n h c floor f = descent_sum (greatest_row n n h) (entry_bound n c floor f) (size n c) f
