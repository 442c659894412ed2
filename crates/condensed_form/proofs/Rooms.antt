-- Sums that fit. In these lemmas each number is as code reads it, from its bits.
use Rattle.std.proofs.Common.{◌≡◌, ℕ, ◌*◌, ◌≤◌, ◌^◌, ℤ, pos, ◌+ℤ◌, ◌*ℤ◌, unsigned_abs, arith, FitsSigned, to_z, of_z}
use Rattle.std.specs.Int.{w128}
use Rattle.std.proofs.lemmas.Int.{ints, unsigned_abs-mul, to_z-of_z}

pub narrow : (z : ℤ) → unsigned_abs z ≤ 2 ^ 126 → FitsSigned w128 z
narrow z h = omega (arith, ints)

-- a number as code reads it
abbrev pub read : ℤ → ℤ
read z = to_z w128 (of_z w128 z)

-- twice a number
module _ (s : ℤ) (e : ℕ) (fs : FitsSigned w128 s) (hs : unsigned_abs s ≤ e) (h : 2 * e ≤ 2 ^ 126) where
  twice_fits : FitsSigned w128 (pos 2 *ℤ s)
  twice_fits = omega (arith, ints)

  pub doubled_fits : FitsSigned w128 (pos 2 *ℤ read s)
  doubled_fits = rw (to_z-of_z w128 s fs) twice_fits

  pub doubled : read (pos 2 *ℤ read s) ≡ pos 2 *ℤ s
  doubled = rw (to_z-of_z w128 s fs) (to_z-of_z w128 (pos 2 *ℤ s) twice_fits)

-- a sum
module _ (x y : ℤ) (fx : FitsSigned w128 x) (fy : FitsSigned w128 y) (h : unsigned_abs (x +ℤ y) ≤ 2 ^ 126) where
  pub sum_fits : FitsSigned w128 (read x +ℤ read y)
  sum_fits = rw (to_z-of_z w128 x fx, to_z-of_z w128 y fy) (narrow (x +ℤ y) h)

  pub sum_read : read (read x +ℤ read y) ≡ x +ℤ y
  sum_read = rw (to_z-of_z w128 x fx, to_z-of_z w128 y fy) (to_z-of_z w128 _ (narrow (x +ℤ y) h))

-- twice a product
module _ (x y : ℤ) (fx : FitsSigned w128 x) (fy : FitsSigned w128 y) (h : 2 * (unsigned_abs x * unsigned_abs y) ≤ 2 ^ 126) where
  once_fits : FitsSigned w128 (x *ℤ y)
  once_fits = narrow (x *ℤ y) (omega (arith, unsigned_abs-mul x y))

  pub product_fits : FitsSigned w128 (read x *ℤ read y)
  product_fits = rw (to_z-of_z w128 x fx, to_z-of_z w128 y fy) once_fits

  small : unsigned_abs (x *ℤ y) ≤ unsigned_abs x * unsigned_abs y
  small = omega (arith, unsigned_abs-mul x y)

  pub doubled_product_fits : FitsSigned w128 (pos 2 *ℤ read (read x *ℤ read y))
  doubled_product_fits = rw (to_z-of_z w128 x fx, to_z-of_z w128 y fy) (doubled_fits (x *ℤ y) _ once_fits small h)

  pub doubled_product : read (pos 2 *ℤ read (read x *ℤ read y)) ≡ pos 2 *ℤ (x *ℤ y)
  doubled_product = rw (to_z-of_z w128 x fx, to_z-of_z w128 y fy) (doubled (x *ℤ y) _ once_fits small h)
