-- Squares: twice a product, and their order.
use Rattle.std.proofs.Common.{ℕ, ◌+◌, ◌*◌, ◌≤◌, ℤ, pos, ◌+ℤ◌, ◌-ℤ◌, ◌*ℤ◌, ◌≤ℤ◌, refl, [], ◌∷◌}
use Rattle.integer_algebra.specs.Sums.{square}
use Rattle.integer_algebra.proofs.OrderLaws.{le_by, le_of_pos, square_nonneg_z}
use Rattle.integer_algebra.proofs.Expression.{v, num, ◌⊖◌}
use Rattle.integer_algebra.proofs.Quoting.{by_ring, quotes}
use Rattle.integer_algebra.proofs.Certificates.{known, ◌≼◌, given, ◌⊠◌, le_by_certificate}

-- ---- twice a product
-- 2 a b is at most the sum of the squares: by a square that is not negative
pub two_products_le : (a b : ℤ) → (pos 2 *ℤ a *ℤ b) ≤ℤ (square a +ℤ square b)
two_products_le a b = le_by (square_nonneg_z (a -ℤ b)) (by_ring (a ∷ b ∷ []) (search quotes depth 60 fits 20000) refl)

-- 2 a b is at most the sum of the squares, of naturals
pub two_products_le_nat : (a b : ℕ) → 2 * a * b ≤ a * a + b * b
two_products_le_nat a b = le_of_pos (2 * a * b) (a * a + b * b) (two_products_le (pos a) (pos b))

-- ---- the order of squares
-- the square of a number of -b .. b is at most that of b: by a certificate, whose multipliers are written
pub square-le-bound : (b x : ℤ) → x ≤ℤ b → (pos 0 -ℤ b) ≤ℤ x → square x ≤ℤ square b
square-le-bound b x h k =
    le_by_certificate (b ∷ x ∷ []) (search quotes depth 60 fits 20000) (known _ (v 1 ≼ v 0) h ∷ known _ (num (pos 0) ⊖ v 0 ≼ v 1) k ∷ [])
    (given 0 ⊠ given 1) refl
