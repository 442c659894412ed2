-- Numbers that fit words of 64 bits, so that the product of two is one multiplication of a processor with such words.
use Rattle.std.specs.Prelude.{◌^◌, ◌<◌, ℤ, unsigned_abs}

-- a number that fits such a word, as its negative does
abbrev pub IsNarrow : ℤ → Type 0
IsNarrow z = unsigned_abs z < 2 ^ 63
