-- Matrices that bend every list up.
use Rattle.std.specs.Prelude.{◌≡◌, ℕ, ◌<◌, ℤ, pos, ◌*ℤ◌, ◌≤ℤ◌}
use Rattle.integer_algebra.specs.Sums.{total, square, dot, image}

-- h is symmetric, and d'h d is at least floor times the sum of the squares of d, for every list d of n whole numbers
pub record IsConvex (n : ℕ) (h : ℕ → ℕ → ℤ) (floor : ℤ) : Type 0 where
  pub positive : pos 1 ≤ℤ floor
  pub symmetric : (i j : ℕ) → i < n → j < n → h i j ≡ h j i
  pub curved : (d : ℕ → ℤ) → (floor *ℤ total n (λ j. square (d j))) ≤ℤ dot n d (image n h d)
