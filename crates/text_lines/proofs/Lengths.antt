-- How long texts are at most, by the words of their lines and how many numbers are after them.
use Rattle.std.proofs.Common.{◌≡◌, ℕ, zero, suc, ◌+◌, ◌*◌, ◌≤◌, ℤ, pos, negsuc, List, [], ◌∷◌, ◌++◌, length, map, replicate, FitsSigned, refl, arith}
use Rattle.std.specs.Prelude.{All}
use Rattle.std.specs.Int.{w128}
use Rattle.std.specs.Fmt.{signed_decimal}
use Rattle.std.specs.List.{join_with_byte}
use Rattle.std.proofs.Math.Nat.{zero-mul, suc-mul}
use Rattle.std.proofs.lemmas.Fmt.{length-decimal-le_wide}
use Rattle.std.proofs.lemmas.List.{length-append}
use Rattle.number_text.specs.Lines.{line_of, text_of}
use Rattle.text_lines.specs.Lines.{Keyed, Place, Fits, spelled, place_of, place}
use Rattle.text_lines.specs.Blocks.{Block, spread}

-- ---- a line
-- the bytes of the words after the first, each with its space
abbrev pub after_first : List (List ℕ) → ℕ
after_first [] = 0
after_first (x ∷ xs) = suc (length x + after_first xs)

joined_length : (b : ℕ) (x : List ℕ) (xs : List (List ℕ)) → length (join_with_byte b (x ∷ xs)) ≡ length x + after_first xs
joined_length b x [] = omega arith
joined_length b x (y ∷ ys) = omega (arith, length-append x (b ∷ join_with_byte b (y ∷ ys)), joined_length b y ys)

pub line_length : (key : List ℕ) (zs : List ℤ) → length (line_of key zs) ≡ length key + after_first (map signed_decimal zs)
line_length key zs = joined_length 32 key (map signed_decimal zs)

-- a sign and 39 digits
pub number_short : (z : ℤ) → FitsSigned w128 z → length (signed_decimal z) ≤ 40
number_short (pos n) fits = omega (arith, length-decimal-le_wide 39 n (omega arith) (omega (arith, fits.sfits)) (omega (arith, fits.sfits)))
number_short (negsuc n) fits = omega (arith, length-decimal-le_wide 39 (suc n) (omega arith) (omega (arith, fits.sfits)) (omega (arith, fits.sfits)))

numbers_short : (zs : List ℤ) → All (FitsSigned w128) zs → after_first (map signed_decimal zs) ≤ 41 * length zs
numbers_short [] fits = omega arith
numbers_short (z ∷ zs) fits = omega (arith, number_short z (fits 0 z (omega arith)), numbers_short zs (λ k d lt. fits (suc k) d (omega (arith, lt))))

-- ---- lines
pub text_length : (line : List ℕ) (lines : List (List ℕ)) → length (text_of (line ∷ lines)) ≡ length line + 1 + length (text_of lines)
text_length line lines = omega (arith, length-append (line ++ 10 ∷ []) (text_of lines), length-append line (10 ∷ []))

-- the most bytes of a line with its line feed, by its word and how many numbers are after it
abbrev pub most_bytes : Place → ℕ
most_bytes p = length p.key + 41 * p.count + 1

abbrev pub most_of : List Place → ℕ
most_of [] = 0
most_of (p ∷ ps) = most_bytes p + most_of ps

pub text_short : (ls : List Keyed) → All Fits ls → length (text_of (map spelled ls)) ≤ most_of (map place_of ls)
text_short [] fits = omega arith
text_short (l ∷ ls) fits =
    omega (
      arith,
      text_length (spelled l) (map spelled ls),
      line_length l.key l.numbers,
      numbers_short l.numbers (fits 0 l (omega arith)),
      text_short ls (λ k d lt. fits (suc k) d (omega (arith, lt))),
    )

-- ---- blocks
abbrev pub most_in : List Block → ℕ
most_in [] = 0
most_in (b ∷ bs) = b.1 * (length b.0 + 41 * b.2 + 1) + most_in bs

most_repeated : (n : ℕ) (p : Place) (ps : List Place) → most_of (replicate n p ++ ps) ≡ n * most_bytes p + most_of ps
most_repeated zero p ps = omega (arith, zero-mul (most_bytes p))
most_repeated (suc n) p ps = omega (arith, suc-mul n (most_bytes p), most_repeated n p ps)

pub most_spread : (bs : List Block) → most_of (spread bs) ≡ most_in bs
most_spread [] = refl
most_spread (b ∷ bs) = omega (arith, most_repeated b.1 (place b.0 b.2) (spread bs), most_spread bs)
