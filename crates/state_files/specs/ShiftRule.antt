-- The floors of a record of shifts that has no other.
use Rattle.std.specs.Prelude.{ℕ, ℤ, negsuc, List, replicate}

-- of n shifts: -2147483647
abbrev pub least_shifts : ℕ → List ℤ
least_shifts n = replicate n (negsuc 2147483646)
