-- Solutions of a symmetric system in whole numbers, up to half the diagonal.
use Rattle.std.specs.Prelude.{ℕ, ◌^◌, ◌<◌, ℤ, pos, ◌-ℤ◌, ◌*ℤ◌, ◌≤ℤ◌}
use Rattle.integer_algebra.specs.Sums.{image}

-- 2 * |hessian x - 2^f c|_j ≤ hessian_jj for each j
abbrev pub IsGood : ℕ → (hessian : ℕ → ℕ → ℤ) → ℕ → (c x : ℕ → ℤ) → Type 0
IsGood n hessian f c x = (j : ℕ) → j < n →
    ((pos 2 *ℤ (image n hessian x j -ℤ pos (2 ^ f) *ℤ c j)) ≤ℤ hessian j j) ×
    ((pos 2 *ℤ (pos (2 ^ f) *ℤ c j -ℤ image n hessian x j)) ≤ℤ hessian j j)
