-- The text of one grid state.
use Rattle.std.specs.Prelude.{ℕ, ℤ, List, map}
use Rattle.std.specs.List.{join_with_byte}
use Rattle.std.specs.Fmt.{signed_decimal}

-- numbers in decimal, with one comma between two
abbrev pub comma_separated : List ℤ → List ℕ
comma_separated xs = join_with_byte 44 (map signed_decimal xs)
