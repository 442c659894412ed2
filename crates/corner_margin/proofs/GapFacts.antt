-- By how much a value misses its target, as code computes it.
use Rattle.std.proofs.Common.{◌≡◌, ◌^◌, ℤ, pos, ◌+ℤ◌, ◌-ℤ◌, ◌≤ℤ◌, unsigned_abs, FitsSigned, to_z, of_z, arith, refl}
use lib.IntN.{neg_ℤ}
use Rattle.std.specs.Int.{w128}
use Rattle.std.proofs.lemmas.Int.{ints, to_z-of_z}
use Rattle.integer_algebra.specs.Bounds.{absolute}

module _ (m r t : ℤ) (radius : pos 0 ≤ℤ r) (h : ((absolute m +ℤ r) +ℤ absolute t) ≤ℤ pos (2 ^ 126)) where
  mid_fits : FitsSigned w128 m
  mid_fits = omega (arith, ints)

  rad_fits : FitsSigned w128 r
  rad_fits = omega (arith, ints)

  target_fits : FitsSigned w128 t
  target_fits = omega (arith, ints)

  apart_fits : FitsSigned w128 (m -ℤ t)
  apart_fits = omega (arith, ints)

  sum_fits : FitsSigned w128 (absolute (m -ℤ t) +ℤ r)
  sum_fits = omega (arith, ints)

  absolute_fits : FitsSigned w128 (absolute (m -ℤ t))
  absolute_fits = omega (arith, ints)

  opposite_fits : FitsSigned w128 (neg_ℤ (m -ℤ t))
  opposite_fits = omega (arith, ints)

  pub difference_fits : FitsSigned w128 (to_z w128 (of_z w128 m) -ℤ to_z w128 (of_z w128 t))
  difference_fits = rw (to_z-of_z w128 m mid_fits, to_z-of_z w128 t target_fits) apart_fits

  pub negated_fits : FitsSigned w128 (neg_ℤ (to_z w128 (of_z w128 (to_z w128 (of_z w128 m) -ℤ to_z w128 (of_z w128 t)))))
  negated_fits = rw (to_z-of_z w128 m mid_fits, to_z-of_z w128 t target_fits, to_z-of_z w128 (m -ℤ t) apart_fits) opposite_fits

  module _ (a : ℤ) (e : a ≡ pos (unsigned_abs (to_z w128 (of_z w128 (to_z w128 (of_z w128 m) -ℤ to_z w128 (of_z w128 t)))))) where
    a_is : a ≡ absolute (m -ℤ t)
    a_is = rw (to_z-of_z w128 m mid_fits, to_z-of_z w128 t target_fits, to_z-of_z w128 (m -ℤ t) apart_fits) at e

    pub gap_fits : FitsSigned w128 (to_z w128 (of_z w128 a) +ℤ to_z w128 (of_z w128 r))
    gap_fits = rw (a_is, to_z-of_z w128 (absolute (m -ℤ t)) absolute_fits, to_z-of_z w128 r rad_fits) sum_fits

    pub gap_is : to_z w128 (of_z w128 (to_z w128 (of_z w128 a) +ℤ to_z w128 (of_z w128 r))) ≡ absolute (m -ℤ t) +ℤ r
    gap_is = rw (a_is, to_z-of_z w128 (absolute (m -ℤ t)) absolute_fits, to_z-of_z w128 r rad_fits, to_z-of_z w128 (absolute (m -ℤ t) +ℤ r) sum_fits) refl
