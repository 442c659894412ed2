-- What packed bytes hold.
use Rattle.std.specs.Prelude.{ℕ, zero, suc, ◌+◌, ◌-◌, ◌*◌, ◌/◌, ◌%◌, ◌^◌, ◌<◌, ◌==◌, nat_lt, if◌then◌else◌, ⊤, ℤ, pos, negsuc, List, [], ◌∷◌}

-- the first number, without a sign, and the bytes behind it
unfoldable pub first_number : List ℕ → ℕ
first_number [] = 0
first_number (b ∷ bytes) = if nat_lt b 128 then b else (b - 128) + 128 * first_number bytes

unfoldable pub after_number : List ℕ → List ℕ
after_number [] = []
after_number (b ∷ bytes) = if nat_lt b 128 then bytes else after_number bytes

-- the number of which this one is the zigzag
abbrev pub unzigzag : ℕ → ℤ
unzigzag n = if n % 2 == 0 then pos (n / 2) else negsuc (n / 2)

-- the first `count` numbers, and the bytes behind them
unfoldable pub numbers_in : (count : ℕ) → List ℕ → List ℤ
numbers_in zero bytes = []
numbers_in (suc count) bytes = unzigzag (first_number bytes) ∷ numbers_in count (after_number bytes)

unfoldable pub after_numbers : (count : ℕ) → List ℕ → List ℕ
after_numbers zero bytes = bytes
after_numbers (suc count) bytes = after_numbers count (after_number bytes)

-- each of them fits 128 bits
unfoldable pub AreWordsIn : (count : ℕ) → List ℕ → Type 0
AreWordsIn zero bytes = ⊤
AreWordsIn (suc count) bytes = (first_number bytes < 2 ^ 128) × AreWordsIn count (after_number bytes)

-- the first rows of `cols` numbers each
unfoldable pub rows_in : (cols count : ℕ) → List ℕ → List (List ℤ)
rows_in cols zero bytes = []
rows_in cols (suc count) bytes = numbers_in cols bytes ∷ rows_in cols count (after_numbers cols bytes)
