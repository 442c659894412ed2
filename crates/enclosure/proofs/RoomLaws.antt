-- What fits where the magnitudes of the operands are within the limit.
use Rattle.std.proofs.Common.{◌≡◌, ◌↔◌, ℕ, ◌+◌, ◌-◌, ◌*◌, ◌^◌, ◌<◌, ◌≤◌, ℤ, pos, negsuc, ◌+ℤ◌, ◌-ℤ◌, ◌*ℤ◌, ◌≤ℤ◌, ◌<ℤ◌, unsigned_abs, FitsSigned, IsSome, IsTrue, Option, None, [], ◌∷◌, arith, refl, ap, ap₂}
use Rattle.std.proofs.Math.IntN.{*ℤ_comm}
use Rattle.std.specs.Int.{w128}
use Rattle.std.proofs.lemmas.Int.{ints, by_lt_z, unsigned_abs-mul}
use lib.Signed.{le_z}
use Rattle.integer_algebra.specs.Bounds.{absolute}
use Rattle.integer_algebra.specs.Division.{ceil_of}
use Rattle.integer_algebra.proofs.DivisionLaws.{ceil_of_is}
use Rattle.integer_algebra.proofs.OrderLaws.{le_of_lt_z, le_by, mul_nonneg_z, mul-le-mul_right_z}
use Rattle.integer_algebra.proofs.Quoting.{by_ring, quotes}
use Rattle.frac_scaled.specs.Enclosures.{Enclosure, Encloses, inexact}

-- two enclosures with the same numbers
pub same_pair : {m r n s : ℤ} → m ≡ n → r ≡ s → ◌≡◌ {A = Enclosure} (record { mid = m; rad = r }) (record { mid = n; rad = s })
same_pair e f = ap₂ (λ (x y : ℤ). record { mid = x; rad = y }) e f

-- what an enclosure reaches, as a natural
pub reach_is : (a r : ℤ) → pos 0 ≤ℤ r → absolute a +ℤ r ≡ pos (unsigned_abs a + unsigned_abs r)
reach_is a (pos r) h = refl
reach_is a (negsuc r) h = absurd h.le

-- and the product of two magnitudes
pub reach_mul_is : (a r b s : ℤ) → pos 0 ≤ℤ r → pos 0 ≤ℤ s →
    (absolute a +ℤ r) *ℤ (absolute b +ℤ s) ≡ pos ((unsigned_abs a + unsigned_abs r) * (unsigned_abs b + unsigned_abs s))
reach_mul_is a r b s h k = ap₂ (λ (x y : ℤ). x *ℤ y) (reach_is a r h) (reach_is b s k)

-- the product of two midpoints is no further
pub product_small : (a r b s : ℤ) → unsigned_abs (a *ℤ b) ≤ (unsigned_abs a + unsigned_abs r) * (unsigned_abs b + unsigned_abs s)
product_small a r b s = omega (arith, unsigned_abs-mul a b)

-- and the rest is the radius of the product
pub product_rest : (a r b s : ℤ) → pos 0 ≤ℤ r → pos 0 ≤ℤ s →
    pos ((unsigned_abs a + unsigned_abs r) * (unsigned_abs b + unsigned_abs s) - unsigned_abs (a *ℤ b)) ≡
    absolute a *ℤ s +ℤ r *ℤ absolute b +ℤ r *ℤ s
product_rest a (pos r) b (pos s) h k = ap pos (omega (arith, unsigned_abs-mul a b))
product_rest a (negsuc r) b s h k = absurd h.le
product_rest a (pos r) b (negsuc s) h k = absurd k.le

-- a limit of a natural is one of the integer that it is
pub limit_is : (n : ℕ) (z : ℤ) → z ≡ pos n → (n ≤ 2 ^ 126) ↔ (z ≤ℤ pos (2 ^ 126))
limit_is n z e = (λ h. omega (arith, ints, e, h), λ h. omega (arith, ints, e, h))

-- what is refused where the natural is above the limit
pub refused : {T : Type 0} (o : Option T) (n : ℕ) (z : ℤ) → o ≡ None → z ≡ pos n → ¬ (n ≤ 2 ^ 126) → IsSome o ↔ (z ≤ℤ pos (2 ^ 126))
refused o n z e f h = rw e (λ s. cc, λ k. absurd (h ((limit_is n z f).1 k)))

-- a sum whose terms are within the limit fits
pub near_fits : (a b : ℤ) (p q m n : ℕ) → unsigned_abs a + p ≤ m → n ≡ unsigned_abs b + q → m + n ≤ 2 ^ 126 → FitsSigned w128 (a +ℤ b)
near_fits a b p q m n h k l = omega (arith, ints, h, k, l)

-- and one of the second numbers
pub near_fits_too : (a b : ℤ) (p q m n : ℕ) → p + unsigned_abs a ≤ m → n ≡ q + unsigned_abs b → m + n ≤ 2 ^ 126 → FitsSigned w128 (a +ℤ b)
near_fits_too a b p q m n h k l = omega (arith, ints, h, k, l)

-- and what their sums reach
pub reach_more : (a b r s : ℤ) (m n : ℕ) → unsigned_abs a + unsigned_abs r ≤ m → n ≡ unsigned_abs b + unsigned_abs s →
    unsigned_abs (a +ℤ b) + unsigned_abs (r +ℤ s) ≤ m + n
reach_more a b r s m n h k = omega (arith, ints, h, k)

-- ---- quotients
-- a quotient rounded up is between 0 and what is divided
pub ceil_small : (z : ℤ) (d : ℕ) → pos 0 ≤ℤ z → 0 < d → (pos 0 ≤ℤ ceil_of z d) × (ceil_of z d ≤ℤ z)
ceil_small z d h p =
    let c = ceil_of_is z d p in
    let e : pos 0 <ℤ pos d = omega (arith, ints) in
    (low z (ceil_of z d) (pos d) h e c.greatest, high z (ceil_of z d) (pos d) h e c.least)
  where
    low : (z q e : ℤ) → pos 0 ≤ℤ z → pos 0 <ℤ e → z ≤ℤ (q *ℤ e) → pos 0 ≤ℤ q
    low z q e h p k = by_lt_z q (pos 0) (λ l. absurd (below z (q *ℤ e) e h p k (turned (q *ℤ e) e (mul-le-mul_right_z e (le_of_lt_z p) (less l))))) (λ l. l)
      where
        less : {q : ℤ} → q <ℤ pos 0 → q ≤ℤ negsuc 0
        less h = omega (arith, ints, h)

        turned : (x e : ℤ) → x ≤ℤ (negsuc 0 *ℤ e) → (x +ℤ e) ≤ℤ pos 0
        turned x e h = le_by h (by_ring (x ∷ e ∷ []) (search quotes depth 60 fits 20000) refl)

        below : (z x e : ℤ) → pos 0 ≤ℤ z → pos 0 <ℤ e → z ≤ℤ x → (x +ℤ e) ≤ℤ pos 0 → ⊥
        below z x e h p k l = omega (arith, ints)

    high : (z q e : ℤ) → pos 0 ≤ℤ z → pos 0 <ℤ e → ((q -ℤ pos 1) *ℤ e) <ℤ z → q ≤ℤ z
    high z q e h p k = by_lt_z z q (λ l. absurd (above _ _ _ (mul-le-mul_right_z e (le_of_lt_z p) (less l)) k (more z e h p))) (λ l. l)
      where
        less : {z q : ℤ} → z <ℤ q → z ≤ℤ (q -ℤ pos 1)
        less {z} {q} h = omega (arith, ints, h)

        more : (z e : ℤ) → pos 0 ≤ℤ z → pos 0 <ℤ e → z ≤ℤ (z *ℤ e)
        more z e h p = le_by (mul_nonneg_z z (e -ℤ pos 1) h (omega (arith, ints))) (by_ring (z ∷ e ∷ []) (search quotes depth 60 fits 20000) refl)

        above : (x y z : ℤ) → x ≤ℤ y → y <ℤ z → z ≤ℤ x → ⊥
        above x y z h k l = omega (arith, ints)

-- 0 or 1
pub inexact_small : (z : ℤ) (d : ℕ) → (pos 0 ≤ℤ inexact z d) × (inexact z d ≤ℤ pos 1)
inexact_small z d = (grind (arith, ints), grind (arith, ints))

-- a radius that is divided fits
pub sum_fits : (x y m r : ℤ) → (pos 0 ≤ℤ x) × (x ≤ℤ r) → (pos 0 ≤ℤ y) × (y ≤ℤ pos 1) → pos (unsigned_abs m + unsigned_abs r) ≤ℤ pos (2 ^ 126) → FitsSigned w128 (x +ℤ y)
sum_fits x y m r h k l = omega (arith, ints, h.0, h.1, k.0, k.1, l)

-- 0 rounded up
pub ceil_none : (d : ℕ) (x : ℤ) → 0 < d → ceil_of (pos 0) d +ℤ x ≡ x
ceil_none d x p = let c = ceil_small (pos 0) d (omega (arith, ints)) p in omega (arith, ints, c.0, c.1)

-- ---- a test
-- what is added where a fraction is tested
pub test_room : (m r num den : ℤ) → pos 0 ≤ℤ r → 2 ^ 40 * unsigned_abs num + (unsigned_abs m + unsigned_abs r) * unsigned_abs den ≤ 2 ^ 126 →
    (unsigned_abs (m *ℤ den) ≤ 2 ^ 126) × (unsigned_abs (r *ℤ den) ≤ 2 ^ 126) × (unsigned_abs (num *ℤ pos (2 ^ 40) -ℤ m *ℤ den) ≤ 2 ^ 126)
test_room m r num den h k =
    let off = unsigned_abs-mul num (pos (2 ^ 40)) in
    let mid = unsigned_abs-mul m den in
    let rad = unsigned_abs-mul r den in
    let split : (unsigned_abs m + unsigned_abs r) * unsigned_abs den ≡ unsigned_abs m * unsigned_abs den + unsigned_abs r * unsigned_abs den = omega arith in
    (omega (arith, mid, split, k), omega (arith, rad, split, k), omega (arith, ints, mid, off, split, k))

-- it is a natural
pub test_is_far : (m r num den : ℤ) → pos 0 ≤ℤ r → pos 1 ≤ℤ den →
    pos (2 ^ 40) *ℤ absolute num +ℤ (absolute m +ℤ r) *ℤ den ≡ pos (2 ^ 40 * unsigned_abs num + (unsigned_abs m + unsigned_abs r) * unsigned_abs den)
test_is_far m (pos r) num (pos den) h k = refl
test_is_far m (negsuc r) num den h k = absurd h.le
test_is_far m (pos r) num (negsuc den) h k = absurd k.le

-- the test
pub test_is : (m r num den : ℤ) → IsTrue (le_z (absolute (num *ℤ pos (2 ^ 40) -ℤ m *ℤ den)) (r *ℤ den)) ↔ Encloses (record { mid = m; rad = r }) num den
test_is m r num den = rw (*ℤ_comm num (pos (2 ^ 40))) (λ t. record { near = told _ _ t }, λ e. tell _ _ e.near)
  where
    told : (a b : ℤ) → IsTrue (le_z a b) → a ≤ℤ b
    told a b t = grind (arith, ints)

    tell : (a b : ℤ) → a ≤ℤ b → IsTrue (le_z a b)
    tell a b t = grind (arith, ints)

-- a divisor as a natural
pub divisor_is : (d : ℤ) → pos 1 ≤ℤ d → pos (unsigned_abs d) ≡ d
divisor_is (pos d) h = refl
divisor_is (negsuc d) h = absurd h.le
