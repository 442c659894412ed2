use Rattle.std.proofs.Common.{◌≡◌, ℕ, ℤ, pos, ◌*ℤ◌, ◌^◌, unsigned_abs, FitsSigned, arith}
use Rattle.std.specs.Int.{w64, w128}
use Rattle.std.proofs.lemmas.Int.{to_z-of_z, fits_signed_from_abs}
use Rattle.mat_products.specs.Narrow.{IsNarrow}
use Rattle.qp_model.proofs.AbsoluteLaws.{le_times_pow, abs-shifted}
use Rattle.fixed_kernel.proofs.WordSums.{one_shifted}
use Rattle.fixed_kernel.proofs.narrow.narrow_scaled.Goals as goal

-- what is scaled is narrow too
narrow_before : (v : ℤ) (k : ℕ) → IsNarrow (v *ℤ pos (2 ^ k)) → FitsSigned w64 v
narrow_before v k h = fits_signed_from_abs w64 v (omega (arith, abs-shifted v k, le_times_pow (unsigned_abs v) k, h))

pub overflow_cast-v : goal.overflow_cast-v
overflow_cast-v c = rw (to_z-of_z w128 _ c.ranges.v) (narrow_before c.args.v c.args.k c.requires.narrow)

pub overflow_mul-v : goal.overflow_mul-v
overflow_mul-v c =
    let before = narrow_before c.args.v c.args.k c.requires.narrow in
    rw (to_z-of_z w128 _ c.ranges.v, to_z-of_z w64 _ before, one_shifted c.args.k c.requires.bits) (fits_signed_from_abs w64 _ c.requires.narrow)

pub returns : goal.returns
returns c =
    let before = narrow_before c.args.v c.args.k c.requires.narrow in
    let product : FitsSigned w64 (c.args.v *ℤ pos (2 ^ c.args.k)) = fits_signed_from_abs w64 _ c.requires.narrow in
    let made : c.from.result ≡ c.args.v *ℤ pos (2 ^ c.args.k) = rw (to_z-of_z w128 _ c.ranges.v, to_z-of_z w64 _ before, one_shifted c.args.k c.requires.bits, to_z-of_z w64 _ product) at c.from.ensures in
    rw made (to_z-of_z w128 _ (fits_signed_from_abs w128 _ (omega (arith, c.requires.narrow))))
