-- Ranges of the numbers of a design and of a controller.
use Rattle.std.specs.Prelude.{ℕ, ◌^◌, ◌≤◌, ◌<◌, ℤ, pos, ◌≤ℤ◌, ◌<ℤ◌, unsigned_abs}

abbrev pub LiesIn : ℕ → ℕ → ℕ → Type 0
LiesIn low high n = (low ≤ n) × (n ≤ high)

-- below 2^31 in absolute value
abbrev pub IsNumerator : ℤ → Type 0
IsNumerator z = unsigned_abs z < 2 ^ 31

-- 1 .. 2^20
pub record IsDenominator (z : ℤ) : Type 0 where
  pub low : pos 1 ≤ℤ z
  pub high : z ≤ℤ pos (2 ^ 20)

-- 1 .. 2^31 - 1
pub record IsPositive (z : ℤ) : Type 0 where
  pub low : pos 1 ≤ℤ z
  pub high : z <ℤ pos (2 ^ 31)
