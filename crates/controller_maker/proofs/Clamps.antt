-- Twice a multiplier bound times a power of two, as the code makes it.
use Rattle.std.proofs.Common.{◌≡◌, ℕ, ◌*◌, ◌^◌, ◌≤◌, ℤ, pos, negsuc, ◌*ℤ◌, ◌≤ℤ◌, unsigned_abs, FitsSigned, arith, refl, ◌∙◌, to_z, of_z}
use Rattle.std.specs.Int.{w128}
use Rattle.std.proofs.lemmas.Int.{ints, to_z-of_z, fits_signed_from_abs}
use mir.Val.{SFits}

pub doubled_fits : (r : ℤ) → pos 1 ≤ℤ r → r ≤ℤ pos (2 ^ 44) → FitsSigned w128 (pos 2 *ℤ r)
doubled_fits (pos n) some narrow = fits_signed_from_abs w128 (pos (2 * n)) (omega (arith, ints, narrow))
doubled_fits (negsuc n) some narrow = absurd (omega (arith, ints, some))

whole : (r : ℤ) (k : ℕ) → pos 1 ≤ℤ r → pos 2 *ℤ r *ℤ pos (2 ^ k) ≡ pos (2 * unsigned_abs r * 2 ^ k)
whole (pos n) k some = refl
whole (negsuc n) k some = absurd (omega (arith, ints, some))

pub clamp_is : (r z : ℤ) (k : ℕ) → SFits w128 r → pos 1 ≤ℤ r → r ≤ℤ pos (2 ^ 44) → z ≡ to_z w128 (of_z w128 (pos 2 *ℤ to_z w128 (of_z w128 r))) *ℤ pos (2 ^ k) →
    z ≡ pos (2 * unsigned_abs r * 2 ^ k)
clamp_is r z k f some narrow e = e ∙ rw (to_z-of_z w128 _ f, to_z-of_z w128 _ (doubled_fits r some narrow)) (whole r k some)

pub clamp_fits : (r : ℤ) (k : ℕ) → SFits w128 r → pos 1 ≤ℤ r → r ≤ℤ pos (2 ^ 44) → 2 * unsigned_abs r * 2 ^ k ≤ 2 ^ 126 →
    FitsSigned w128 (to_z w128 (of_z w128 (pos 2 *ℤ to_z w128 (of_z w128 r))) *ℤ pos (2 ^ k))
clamp_fits r k f some narrow room =
    rw (to_z-of_z w128 _ f, to_z-of_z w128 _ (doubled_fits r some narrow), whole r k some) (fits_signed_from_abs w128 (pos (2 * unsigned_abs r * 2 ^ k)) (omega (arith, room)))
