-- The root of a matrix in whole numbers.
use Rattle.std.specs.Prelude.{◌≡◌, ◌⊎◌, ℕ, zero, suc, ◌+◌, ◌*◌, ◌<◌, ◌≤◌, ◌^◌, ℤ, pos, ◌-ℤ◌, ◌*ℤ◌, ◌≤ℤ◌, ◌<ℤ◌, unsigned_abs, ◌≢◌, length}
use Rattle.mat_int.specs.Matrix.{Matrix, row_of}
use Rattle.std.specs.Int.{IsIsqrt, int_max, int_min}
use Rattle.integer_algebra.specs.Sums.{total, dot, square}
use Rattle.integer_algebra.specs.Division.{floor_of}
use Rattle.integer_algebra.specs.Sizes.{amount}

-- the greatest diagonal entry of a matrix whose diagonal is positive
abbrev pub top : ℕ → (ℕ → ℕ → ℤ) → ℤ
top zero m = pos 0
top (suc n) m = int_max (top n m) (m n n)

-- the least of these and t
abbrev pub low : ℤ → ℕ → (ℕ → ℕ → ℤ) → ℤ
low t zero m = t
low t (suc n) m = int_min (low t n m) (m n n)

-- no entry of row i is greater than t in absolute value
abbrev pub IsBoundedRow : ℕ → (ℕ → ℕ → ℤ) → ℤ → ℕ → Type 0
IsBoundedRow n m t i = (j : ℕ) → j < n → pos (unsigned_abs (m i j)) ≤ℤ t

-- there is a diagonal, it is positive and below 2^116, and no entry is greater in absolute value than the greatest of the diagonal
pub record IsStart (n : ℕ) (m : ℕ → ℕ → ℤ) : Type 0 where
  pub filled : 1 ≤ n
  pub positive : (i : ℕ) → i < n → pos 1 ≤ℤ m i i
  pub small : top n m <ℤ pos (2 ^ 116)
  pub inside : (i : ℕ) → i < n → IsBoundedRow n m (top n m) i

-- h is the greatest number from 0 with 4^h * t below 2^62, and 0 where there is none
pub record IsShift (t : ℤ) (h : ℕ) : Type 0 where
  pub below : (h ≡ 0) ⊎ ((t *ℤ pos (4 ^ h)) <ℤ pos (2 ^ 62))
  pub greatest : pos (2 ^ 62) ≤ℤ (t *ℤ pos (4 ^ h) *ℤ pos 4)

-- what is left of the diagonal entry of row i after j columns
abbrev pub left : (ℕ → ℕ → ℤ) → ℤ → (ℕ → ℕ → ℤ) → ℕ → ℕ → ℤ
left b mu r i j = b i i -ℤ mu -ℤ total j (λ k. square (r i k))

-- the entry of row i in column j
abbrev pub quotient : (ℕ → ℕ → ℤ) → (ℕ → ℕ → ℤ) → ℕ → ℕ → ℤ
quotient b r i j = floor_of (b i j -ℤ dot j (r i) (r j)) (unsigned_abs (r j j))

-- the first j entries of row i are made by the rule, and none ends it
pub record IsPart (b : ℕ → ℕ → ℤ) (mu : ℤ) (r : ℕ → ℕ → ℤ) (i j : ℕ) : Type 0 where
  pub made : (k : ℕ) → k < j → r i k ≡ quotient b r i k
  pub small : (k : ℕ) → k < j → unsigned_abs (r i k) < 2 ^ 62
  pub stays : (k : ℕ) → k < j → pos 1 ≤ℤ left b mu r i (k + 1)

-- row i is made by the rule
pub record IsRow (n : ℕ) (b : ℕ → ℕ → ℤ) (mu : ℤ) (r : ℕ → ℕ → ℤ) (i : ℕ) : Type 0 where
  pub part : IsPart b mu r i i
  pub positive : pos 1 ≤ℤ left b mu r i i
  pub own : IsIsqrt (left b mu r i i) (r i i)
  pub nonzero : pos 1 ≤ℤ r i i
  pub above : (j : ℕ) → i < j → j < n → r i j ≡ pos 0

abbrev pub AreRows : ℕ → (ℕ → ℕ → ℤ) → ℤ → (ℕ → ℕ → ℤ) → ℕ → Type 0
AreRows n b mu r i = (a : ℕ) → a < i → IsRow n b mu r a

-- the least diagonal entry of the scaled matrix divided by 4096
abbrev pub diagonal_reserve : ℤ → ℕ → (ℕ → ℕ → ℤ) → ℤ
diagonal_reserve up n m = floor_of (up *ℤ low (top n m) n m) 4096

-- the matrix with a factor
abbrev pub scaled_up : ℤ → (ℕ → ℕ → ℤ) → ℕ → ℕ → ℤ
scaled_up up m i j = up *ℤ m i j

-- r is the root of m at the shift h
pub record IsRecipeRoot (n : ℕ) (m : ℕ → ℕ → ℤ) (h : ℕ) (r : ℕ → ℕ → ℤ) : Type 0 where
  pub start : IsStart n m
  pub shift : IsShift (top n m) h
  pub rows : AreRows n (scaled_up (pos (4 ^ h)) m) (diagonal_reserve (pos (4 ^ h)) n m) r n

-- the absolute values of the products of the first entries of rows i and j
abbrev pub product_sizes : (ℕ → ℕ → ℤ) → ℕ → ℕ → ℕ → ℕ
product_sizes r i j n = amount n (λ k. unsigned_abs (r i k) * unsigned_abs (r j k))

-- no matrix is made by the rule
abbrev pub NoRows : ℕ → (ℕ → ℕ → ℤ) → ℤ → Type 0
NoRows n b mu = (r : ℕ → ℕ → ℤ) → ¬ AreRows n b mu r n

-- numbers that leave room
pub record IsSmall (n : ℕ) (b : ℕ → ℕ → ℤ) (mu : ℤ) : Type 0 where
  pub entries : (i j : ℕ) → i < n → j < n → unsigned_abs (b i j) < 2 ^ 117
  pub low : pos 0 ≤ℤ mu
  pub high : mu ≤ℤ pos (2 ^ 117)

-- s is r but for the entry v in row i and column j
pub record IsEntryWritten (r s : ℕ → ℕ → ℤ) (i j : ℕ) (v : ℤ) : Type 0 where
  pub here : s i j ≡ v
  pub beside : (k : ℕ) → k ≢ j → s i k ≡ r i k
  pub elsewhere : (a k : ℕ) → a ≢ i → s a k ≡ r a k

-- the rows from i on are 0
abbrev pub IsBlank : ℕ → (ℕ → ℕ → ℤ) → ℕ → Type 0
IsBlank n r i = (a k : ℕ) → i ≤ a → a < n → k < n → r a k ≡ pos 0

-- the rows have the stated length
abbrev pub IsEven : Matrix → Type 0
IsEven m = (a : ℕ) → a < length m.rows → length (row_of m a) ≡ m.cols

-- there is no root
abbrev pub NoRoot : ℕ → (ℕ → ℕ → ℤ) → Type 0
NoRoot n m = (h : ℕ) (r : ℕ → ℕ → ℤ) → ¬ IsRecipeRoot n m h r
