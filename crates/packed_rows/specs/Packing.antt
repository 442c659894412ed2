-- Whole numbers in few bytes: by the zigzag rule a number without a sign, and of it the digits to the base 128.
use Rattle.std.specs.Prelude.{ℕ, zero, suc, ◌+◌, ◌*◌, ◌/◌, ◌%◌, nat_lt, if◌then◌else◌, ℤ, pos, negsuc, List, [], ◌∷◌, flat_map}

-- 2n for n, and 2n + 1 for -(n + 1): small for what is small, and below 2^128 for what fits 128 bits
abbrev pub zigzag : ℤ → ℕ
zigzag (pos n) = 2 * n
zigzag (negsuc n) = 2 * n + 1

-- the digits to the base 128, the least first, `more` + 1 of them at most; the high bit of a byte says that another follows
unfoldable pub digits_128 : (more : ℕ) → ℕ → List ℕ
digits_128 zero n = n ∷ []
digits_128 (suc more) n = if nat_lt n 128 then n ∷ [] else (128 + n % 128) ∷ digits_128 more (n / 128)

-- 128 bits have 19 digits at most
abbrev pub packed : ℤ → List ℕ
packed z = digits_128 18 (zigzag z)

-- the numbers of a row one after the other, and the rows
abbrev pub packed_row : List ℤ → List ℕ
packed_row row = flat_map packed row

abbrev pub packed_rows : List (List ℤ) → List ℕ
packed_rows rows = flat_map packed_row rows
