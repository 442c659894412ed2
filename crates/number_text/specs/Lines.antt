-- Texts of lines, each with one line feed, of words with one space between two.
use Rattle.std.specs.Prelude.{ℕ, ℤ, List, [], ◌∷◌, ◌++◌, map, codes}
use Rattle.std.specs.List.{join_with_byte}
use Rattle.std.specs.Fmt.{signed_decimal}

-- numbers in decimal, which have one spelling: `0`, or an optional `-` and digits that begin with no zero
abbrev pub spaced : List ℤ → List ℕ
spaced zs = join_with_byte 32 (map signed_decimal zs)

-- a word and numbers
abbrev pub line_of : List ℕ → List ℤ → List ℕ
line_of key zs = join_with_byte 32 (key ∷ map signed_decimal zs)

-- the lines, each with its line feed
abbrev pub text_of : List (List ℕ) → List ℕ
text_of [] = []
text_of (line ∷ lines) = line ++ 10 ∷ [] ++ text_of lines
