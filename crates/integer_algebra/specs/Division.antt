-- Quotients of whole numbers, made whole.
use Rattle.std.specs.Prelude.{ℕ, ◌+◌, ◌-◌, ◌*◌, ◌/◌, ℤ, pos, negsuc, ◌+ℤ◌, ◌-ℤ◌, ◌*ℤ◌, neg_ℤ, ◌≤ℤ◌, ◌<ℤ◌}
use Rattle.integer_algebra.specs.Bounds.{absolute}

-- a / b, rounded up
abbrev pub ceil_div : ℕ → ℕ → ℕ
ceil_div a b = (a + (b - 1)) / b

-- z / d, rounded down
abbrev pub floor_of : ℤ → ℕ → ℤ
floor_of (pos a) d = pos (a / d)
floor_of (negsuc a) d = negsuc (a / d)

-- z / d, rounded up
abbrev pub ceil_of : ℤ → ℕ → ℤ
ceil_of z d = neg_ℤ (floor_of (neg_ℤ z) d)

-- z / d, rounded to the nearest, and a tie upward
abbrev pub round_of : ℤ → ℕ → ℤ
round_of z d = floor_of (pos 2 *ℤ z +ℤ pos d) (2 * d)

-- q is the greatest whole number with q * d at most z
pub record IsFloor (z : ℤ) (d : ℕ) (q : ℤ) : Type 0 where
  pub least : (q *ℤ pos d) ≤ℤ z
  pub greatest : z <ℤ ((q +ℤ pos 1) *ℤ pos d)

-- q is the least whole number with q * d at least z
pub record IsCeiling (z : ℤ) (d : ℕ) (q : ℤ) : Type 0 where
  pub greatest : z ≤ℤ (q *ℤ pos d)
  pub least : ((q -ℤ pos 1) *ℤ pos d) <ℤ z

-- no whole number is nearer to z / d than q, and none above q is as near
pub record IsNearest (z : ℤ) (d : ℕ) (q : ℤ) : Type 0 where
  pub near : (k : ℤ) → absolute (q *ℤ pos d -ℤ z) ≤ℤ absolute (k *ℤ pos d -ℤ z)
  pub upward : (k : ℤ) → q <ℤ k → absolute (q *ℤ pos d -ℤ z) <ℤ absolute (k *ℤ pos d -ℤ z)
