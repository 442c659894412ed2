-- Products and sums within absolute sums of at most 2^126.
use Rattle.std.proofs.Common.{◌≡◌, ℕ, ◌+◌, ◌*◌, ◌^◌, ◌≤◌, ◌<ℤ◌, max, ℤ, pos, negsuc, ◌-ℤ◌, ◌*ℤ◌, unsigned_abs, FitsSigned, le_refl, arith, ap, ◌∙◌, refl}
use Rattle.std.specs.Int.{w128, int_max}
use Rattle.std.proofs.lemmas.Int.{ints, clamps, unsigned_abs-mul, fits_signed_from_abs}
use Rattle.std.proofs.lemmas.Nat.{mul-le, pow-add, pow_below, pow_pos}
use Rattle.qp_model.specs.problem.Range.{IsDenominator}
use Rattle.settle_check.specs.Still.{Box}
use Rattle.settle_check.specs.StillSize.{furthest}

pub product_le : (a b : ℤ) (s t : ℕ) → unsigned_abs a ≤ s → unsigned_abs b ≤ t → unsigned_abs (a *ℤ b) ≤ s * t
product_le a b s t h k = omega (arith, unsigned_abs-mul a b, mul-le (unsigned_abs a) (unsigned_abs b) s t h k)

pub fits : (z : ℤ) (s : ℕ) → unsigned_abs z ≤ s → s ≤ 2 ^ 126 → FitsSigned w128 z
fits z s h k = fits_signed_from_abs w128 z (omega (arith, h, k))

pub max_le : (a b : ℤ) (s : ℕ) → unsigned_abs a ≤ s → unsigned_abs b ≤ s → unsigned_abs (int_max a b) ≤ s
max_le a b s h k = omega (arith, ints, clamps, h, k)

-- both ends of a box, times a number
pub both_within : (v low high : ℤ) (s l h m n : ℕ) → unsigned_abs v ≤ s → l ≡ unsigned_abs low → h ≡ unsigned_abs high → m ≡ max l h → n ≡ max m 1 →
    (unsigned_abs (v *ℤ low) ≤ s * n) × (unsigned_abs (v *ℤ high) ≤ s * n)
both_within v low high s l h m n a e f g k = (product_le v low s n a (omega (arith, e, f, g, k)), product_le v high s n a (omega (arith, e, f, g, k)))

-- of a number from 0 to 1 less t, times a
pub less_le : (a t : ℤ) (s n : ℕ) → unsigned_abs a ≤ s → n ≡ unsigned_abs t + 1 → unsigned_abs (int_max a (pos 0) -ℤ a *ℤ t) ≤ s * n
less_le a t s n h e =
    joined a (a *ℤ t) s _ (s * n) h (product_le a t s (unsigned_abs t) h (omega arith)) (rw e (omega arith))
  where
    joined : (a p : ℤ) (s m n : ℕ) → unsigned_abs a ≤ s → unsigned_abs p ≤ m → n ≡ m + s → unsigned_abs (int_max a (pos 0) -ℤ p) ≤ n
    joined a p s m n h k e = omega (arith, ints, clamps, h, k, e)

-- a size is at most itself times how far a box reaches
pub le_times_reach : (n : ℕ) (z : Box) (j : ℕ) → n ≤ n * furthest z j
le_times_reach n z j = omega (arith, mul-le n 1 n (furthest z j) (le_refl n) (omega arith))

pub le_times_some : (n a : ℕ) → n ≤ n * max a 1
le_times_some n a = omega (arith, mul-le n 1 n (max a 1) (le_refl n) (omega arith))

pub le_times_more : (n a : ℕ) → n ≤ n * (a + 1)
le_times_more n a = omega (arith, mul-le n 1 n (a + 1) (le_refl n) (omega arith))

pub le_power_times : (k n : ℕ) → n ≤ 2 ^ k * n
le_power_times k n = omega (arith, mul-le 1 n (2 ^ k) n (pow_pos k) (le_refl n))

-- each part of a row's size is at most the whole
pub record Parts (p q r o l : ℕ) : Type 0 where
  pub over : o ≤ p + q
  pub scaled : p ≤ p + q
  pub bound : r ≤ p + q
  pub less : l ≤ p + q
  pub rest : l + r ≤ p + q

pub whole : (k u o l b : ℕ) → 1 ≤ k → 1 ≤ u → Parts (k * o) (u * (l + u * b)) (u * b) o l
whole k u o l b h g =
    let a : o ≤ k * o = omega (arith, mul-le 1 o k o h (le_refl o)) in
    let c : l + u * b ≤ u * (l + u * b) = omega (arith, mul-le 1 (l + u * b) u (l + u * b) g (le_refl (l + u * b))) in
    parts (k * o) (u * (l + u * b)) (u * b) o l a c
  where
    parts : (p q r o l : ℕ) → o ≤ p → l + r ≤ q → Parts p q r o l
    parts p q r o l h k = record { over = omega (arith, h); scaled = omega arith; bound = omega (arith, k); less = omega (arith, k); rest = omega (arith, k) }

-- a square of a power
pub square_power : (f : ℕ) → pos (2 ^ (2 * f)) ≡ pos (2 ^ f) *ℤ pos (2 ^ f)
square_power f = let e : 2 * f ≡ f + f = omega arith in ap pos (ap (λ n. 2 ^ n) e ∙ pow-add 2 f f)

pub below : (x y z w : ℤ) → x <ℤ y → x ≡ z → y ≡ w → z <ℤ w
below x y z w h e f = omega (arith, ints, h, e, f)

-- a denominator times a power
pub scaled_fits : (v : ℤ) (f : ℕ) → IsDenominator v → f ≤ 48 → FitsSigned w128 (v *ℤ pos (2 ^ f))
scaled_fits v f h l =
    fits (v *ℤ pos (2 ^ f)) (2 ^ 20 * 2 ^ 49) (product_le v (pos (2 ^ f)) (2 ^ 20) (2 ^ 49) (omega (arith, ints, h.low, h.high)) (omega (arith, pow_below f 49 (omega (arith, l))))) (omega arith)

pub scaled_is : (v : ℤ) (n : ℕ) → IsDenominator v → v *ℤ pos n ≡ pos (unsigned_abs v * n)
scaled_is (pos a) n h = refl
scaled_is (negsuc a) n h = absurd (omega (arith, ints, h.low))

pub over_positive : (v : ℤ) (f : ℕ) → IsDenominator v → 1 ≤ unsigned_abs v * 2 ^ f
over_positive v f h = omega (arith, mul-le 1 1 (unsigned_abs v) (2 ^ f) (omega (arith, ints, h.low)) (pow_pos f))

pub over_small : (v : ℤ) (f : ℕ) → IsDenominator v → f ≤ 48 → unsigned_abs v * 2 ^ f ≤ 2 ^ 70
over_small v f h l = omega (arith, mul-le (unsigned_abs v) (2 ^ f) (2 ^ 20) (2 ^ 49) (omega (arith, ints, h.low, h.high)) (omega (arith, pow_below f 49 (omega (arith, l)))))

pub positive : (v : ℤ) → IsDenominator v → 1 ≤ unsigned_abs v
positive v h = omega (arith, ints, h.low)
