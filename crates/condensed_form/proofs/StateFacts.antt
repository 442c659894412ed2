-- What a stage of a run needs, and gives.
use Rattle.std.proofs.Common.{◌≡◌, ℕ, ◌+◌, ◌-◌, ◌<◌, ◌≤◌, ℤ, pos, ◌≤ℤ◌, List, take, drop, unsigned_abs, arith, ◌∙◌}
use Rattle.std.proofs.lemmas.Int.{ints}
use Rattle.std.proofs.lemmas.List.{get_or-take, get_or-drop}
use Rattle.integer_algebra.specs.Sums.{at}

-- the slice of c numbers at a
pub at-part : (xs : List ℤ) (a c j : ℕ) → j < c → at (take (a + c - a) (drop a xs)) j ≡ at xs (a + j)
at-part xs a c j l = let e : a + c - a ≡ c = omega arith in rw e (get_or-take c (drop a xs) j (pos 0) l ∙ get_or-drop a xs j (pos 0))

pub denominator_positive : (z : ℤ) → pos 1 ≤ℤ z → 1 ≤ unsigned_abs z
denominator_positive z h = omega (arith, ints)
