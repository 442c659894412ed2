-- How a number's word begins.
use Rattle.std.specs.Prelude.{ℕ, List, [], ◌∷◌, Bool, false, ◌==◌, ◌&&◌, nat_le, if◌then◌else◌}

-- the byte is a digit from this one on
abbrev pub is_digit_from : ℕ → ℕ → Bool
is_digit_from low c = nat_le low c && nat_le c 57

-- a lone digit, or a digit other than 0 in front, after a minus or not
abbrev pub is_plain : List ℕ → Bool
is_plain [] = false
is_plain (c ∷ []) = is_digit_from 48 c
is_plain (c ∷ d ∷ rest) = if c == 45 then is_digit_from 49 d else is_digit_from 49 c
