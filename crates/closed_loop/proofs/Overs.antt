-- What the next state is over.
use Rattle.std.proofs.Common.{◌≡◌, ℕ, ◌*◌, ◌^◌, ◌<◌, ◌≤◌, ℤ, pos, negsuc, ◌*ℤ◌, ◌≤ℤ◌, unsigned_abs, FitsSigned, arith, refl}
use Rattle.std.specs.Int.{w128}
use Rattle.std.proofs.lemmas.Int.{ints, unsigned_abs-mul, fits_signed_from_abs}
use Rattle.std.proofs.lemmas.Nat.{mul-le}
use Rattle.qp_model.specs.problem.Range.{IsDenominator}

den_is : (a : ℤ) → IsDenominator a → a ≡ pos (unsigned_abs a)
den_is (pos n) h = refl
den_is (negsuc n) h = absurd (omega (arith, ints, h.low))

den_small : (a : ℤ) → IsDenominator a → unsigned_abs a ≤ 2 ^ 20
den_small a h = omega (arith, ints, h.low, h.high)

pub over_fits : (a s : ℤ) → IsDenominator a → unsigned_abs s < 2 ^ 81 → FitsSigned w128 (a *ℤ s)
over_fits a s h l =
    fits_signed_from_abs w128 _ (omega (arith, unsigned_abs-mul a s, mul-le (unsigned_abs a) (unsigned_abs s) (2 ^ 20) (2 ^ 81) (den_small a h) (omega arith)))

pub over_is : (a s : ℤ) (k : ℕ) → IsDenominator a → s ≡ pos k → a *ℤ s ≡ pos (unsigned_abs a * k)
over_is a s k h e = rw (e, den_is a h) refl

den_some : (a : ℤ) → IsDenominator a → 1 ≤ unsigned_abs a
den_some a h = omega (arith, ints, h.low)

pub over_some : (a : ℤ) (k : ℕ) → IsDenominator a → 1 ≤ k → 1 ≤ unsigned_abs a * k
over_some a k h l = mul-le 1 1 (unsigned_abs a) k (den_some a h) l

pub at_least_one : (n : ℕ) → 1 ≤ n → pos 1 ≤ℤ pos n
at_least_one n h = omega (arith, ints)
