-- Enclosures: a midpoint and a radius, which stand for every fraction within the radius of the midpoint. Both are over 2^40.
use Rattle.std.specs.Prelude.{ℕ, ◌^◌, ◌%◌, ℤ, pos, ◌+ℤ◌, ◌-ℤ◌, ◌*ℤ◌, ◌≤ℤ◌, unsigned_abs, if◌then◌else◌, nat_eq}
use Rattle.integer_algebra.specs.Bounds.{absolute}
use Rattle.integer_algebra.specs.Division.{round_of, ceil_of}

-- a midpoint and a radius
pub record Enclosure : Type 0 where
  pub mid : ℤ
  pub rad : ℤ

-- num / den is one of the fractions that e stands for; den is at least 1
pub record Encloses (e : Enclosure) (num den : ℤ) : Type 0 where
  pub near : absolute (pos (2 ^ 40) *ℤ num -ℤ e.mid *ℤ den) ≤ℤ (e.rad *ℤ den)

-- the greatest absolute value of a fraction that e stands for, over 2^40
abbrev pub magnitude : Enclosure → ℤ
magnitude e = absolute e.mid +ℤ e.rad

-- 0 where d divides z, and else 1, which is more than z / d is rounded by
abbrev pub inexact : ℤ → ℕ → ℤ
inexact z d = if nat_eq (unsigned_abs z % d) 0 then pos 0 else pos 1

-- e / d: the midpoint to the nearest and the radius up, and 1 more where the midpoint was rounded
abbrev pub divided : Enclosure → ℕ → Enclosure
divided e d = record { mid = round_of e.mid d; rad = ceil_of e.rad d +ℤ inexact e.mid d }

-- num / den
abbrev pub enclosed : ℤ → ℕ → Enclosure
enclosed num den = record { mid = round_of (pos (2 ^ 40) *ℤ num) den; rad = inexact (pos (2 ^ 40) *ℤ num) den }

-- the whole number n, exactly
abbrev pub exactly : ℤ → Enclosure
exactly n = record { mid = pos (2 ^ 40) *ℤ n; rad = pos 0 }

-- a + b
abbrev pub sum_of : Enclosure → Enclosure → Enclosure
sum_of a b = record { mid = a.mid +ℤ b.mid; rad = a.rad +ℤ b.rad }

-- c * a, without rounding
abbrev pub multiple : ℤ → Enclosure → Enclosure
multiple c a = record { mid = c *ℤ a.mid; rad = absolute c *ℤ a.rad }

-- a * b without rounding: midpoint and radius are over 2^80
abbrev pub whole_product : Enclosure → Enclosure → Enclosure
whole_product a b = record {
  mid = a.mid *ℤ b.mid;
  rad = absolute a.mid *ℤ b.rad +ℤ a.rad *ℤ absolute b.mid +ℤ a.rad *ℤ b.rad;
}

-- a * b
abbrev pub product_of : Enclosure → Enclosure → Enclosure
product_of a b = divided (whole_product a b) (2 ^ 40)
