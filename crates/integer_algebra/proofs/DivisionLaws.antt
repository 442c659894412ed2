-- Quotients made whole, as bounds without a quotient.
use Rattle.std.proofs.Common.{◌≡◌, ℕ, ◌+◌, ◌-◌, ◌*◌, ◌/◌, ◌<◌, ◌≤◌, ℤ, pos, negsuc, ◌+ℤ◌, ◌-ℤ◌, ◌*ℤ◌, neg_ℤ, ◌≤ℤ◌, ◌<ℤ◌, [], ◌∷◌, arith, ap, ◌∙◌, refl}
use Rattle.std.proofs.lemmas.Int.{ints, by_lt_z}
use Rattle.std.proofs.lemmas.Nat.{div_below}
use Rattle.std.specs.Int.Signed.{≤ℤ_refl}
use Rattle.integer_algebra.specs.Bounds.{absolute}
use Rattle.integer_algebra.specs.Division.{ceil_div, floor_of, ceil_of, round_of, IsFloor, IsCeiling, IsNearest}
use Rattle.integer_algebra.proofs.RingLaws.{neg-mul_z}
use Rattle.integer_algebra.proofs.OrderLaws.{le_by, lt_by, mul-le-mul_right_z}
use Rattle.integer_algebra.proofs.Quoting.{by_ring, quotes}

-- ---- naturals
-- b times the quotient rounded up is at least a
pub le-mul-ceil_div : (a b : ℕ) → 0 < b → a ≤ b * ceil_div a b
le-mul-ceil_div a b h = omega arith

-- b times the quotient rounded up is less than a + b
pub mul-ceil_div-lt : (a b : ℕ) → 0 < b → b * ceil_div a b < a + b
mul-ceil_div-lt a b h = omega arith

-- the quotient rounded up is the least n with a at most b n
pub ceil_div-le : (a b n : ℕ) → 0 < b → a ≤ b * n → ceil_div a b ≤ n
ceil_div-le a b n h k =
    let l : a + (b - 1) < (n + 1) * b = omega arith in
    omega (arith, div_below (a + (b - 1)) b (n + 1) h l)

-- ---- integers, rounded down
-- the quotient rounded down, as two bounds
pub floor_of_is : (z : ℤ) (d : ℕ) → 0 < d → IsFloor z d (floor_of z d)
floor_of_is (pos a) d h = record { least = omega (arith, ints); greatest = omega (arith, ints) }
floor_of_is (negsuc a) d h = record { least = omega (arith, ints); greatest = rw (next (a / d)) (omega (arith, ints)) }
  where
    next : (k : ℕ) → (negsuc k +ℤ pos 1) *ℤ pos d ≡ neg_ℤ (pos (k * d))
    next k = let e : negsuc k +ℤ pos 1 ≡ neg_ℤ (pos k) = omega (arith, ints) in ap (λ z. z *ℤ pos d) e ∙ neg-mul_z (pos k) (pos d)

-- one with q * d at most z is at most another with z below (r + 1) * d
floor_least : (z : ℤ) (d : ℕ) (q r : ℤ) → (q *ℤ pos d) ≤ℤ z → z <ℤ ((r +ℤ pos 1) *ℤ pos d) → q ≤ℤ r
floor_least z d q r h k = by_lt_z r q
    (λ l. let m : ((r +ℤ pos 1) *ℤ pos d) ≤ℤ (q *ℤ pos d) = mul-le-mul_right_z (pos d) (omega (arith, ints)) (omega (arith, ints)) in
    absurd (clash _ _ _ m h k))
    (λ l. l)
  where
    clash : (a b z : ℤ) → a ≤ℤ b → b ≤ℤ z → z <ℤ a → ⊥
    clash a b z h k l = omega (arith, ints)

-- a number between the two bounds is the quotient rounded down
pub floor_unique : (z : ℤ) (d : ℕ) (q : ℤ) → 0 < d → IsFloor z d q → q ≡ floor_of z d
floor_unique z d q p h =
    let k = floor_of_is z d p in
    same q (floor_of z d) (floor_least z d q (floor_of z d) h.least k.greatest) (floor_least z d (floor_of z d) q k.least h.greatest)
  where
    same : (a b : ℤ) → a ≤ℤ b → b ≤ℤ a → a ≡ b
    same a b h k = omega (arith, ints)

-- ---- rounded up
-- the quotient rounded up, as two bounds
pub ceil_of_is : (z : ℤ) (d : ℕ) → 0 < d → IsCeiling z d (ceil_of z d)
ceil_of_is z d h =
    let k = floor_of_is (neg_ℤ z) d h in
    record { greatest = turned z (floor_of (neg_ℤ z) d) (pos d) k.least; least = turned_below z (floor_of (neg_ℤ z) d) (pos d) k.greatest }
  where
    turned : (z q e : ℤ) → (q *ℤ e) ≤ℤ neg_ℤ z → z ≤ℤ (neg_ℤ q *ℤ e)
    turned z q e h = le_by h (by_ring (z ∷ q ∷ e ∷ []) (search quotes depth 60 fits 20000) refl)

    turned_below : (z q e : ℤ) → neg_ℤ z <ℤ ((q +ℤ pos 1) *ℤ e) → ((neg_ℤ q -ℤ pos 1) *ℤ e) <ℤ z
    turned_below z q e h = lt_by h (by_ring (z ∷ q ∷ e ∷ []) (search quotes depth 60 fits 20000) refl)

-- ---- rounded to the nearest, and a tie upward
-- twice the quotient rounded to the nearest, as two bounds
pub round_of_bounds : (z : ℤ) (d : ℕ) → 0 < d →
    ((pos 2 *ℤ (round_of z d *ℤ pos d)) ≤ℤ (pos 2 *ℤ z +ℤ pos d)) ×
    ((pos 2 *ℤ z +ℤ pos d) <ℤ (pos 2 *ℤ (round_of z d *ℤ pos d) +ℤ pos 2 *ℤ pos d))
round_of_bounds z d h =
    let k = floor_of_is (pos 2 *ℤ z +ℤ pos d) (2 * d) (omega arith) in
    spread (pos 2 *ℤ z +ℤ pos d) (round_of z d) (pos d) (pos (2 * d)) refl k.least k.greatest
  where
    spread : (x q e f : ℤ) → f ≡ pos 2 *ℤ e → (q *ℤ f) ≤ℤ x → x <ℤ ((q +ℤ pos 1) *ℤ f) →
        ((pos 2 *ℤ (q *ℤ e)) ≤ℤ x) × (x <ℤ (pos 2 *ℤ (q *ℤ e) +ℤ pos 2 *ℤ e))
    spread x q e f g h k = (
      le_by (rw g at h) (by_ring (x ∷ q ∷ e ∷ []) (search quotes depth 60 fits 20000) refl),
      lt_by (rw g at k) (by_ring (x ∷ q ∷ e ∷ []) (search quotes depth 60 fits 20000) refl),
    )

-- no whole number is nearer than the rounded quotient, and none above it is as near
pub round_of_is : (z : ℤ) (d : ℕ) → 0 < d → IsNearest z d (round_of z d)
round_of_is z d h =
    let q = round_of z d in
    let b = round_of_bounds z d h in
    let o : pos 0 <ℤ pos d = omega (arith, ints) in
    record {
      near = λ k. by_lt_z q k
          (λ l. above z (pos d) (q *ℤ pos d) (k *ℤ pos d) o b.1 (steps d q k l))
          (λ l. by_lt_z k q (λ m. below z (pos d) (q *ℤ pos d) (k *ℤ pos d) o b.0 (steps d k q m)) (λ m. equal z d q k l m));
      upward = λ k l. strictly z (pos d) (q *ℤ pos d) (k *ℤ pos d) o b.1 (steps d q k l);
    }
  where
    steps : (d : ℕ) (q k : ℤ) → q <ℤ k → (q *ℤ pos d +ℤ pos d) ≤ℤ (k *ℤ pos d)
    steps d q k l =
        let m : ((q +ℤ pos 1) *ℤ pos d) ≤ℤ (k *ℤ pos d) = mul-le-mul_right_z (pos d) (omega (arith, ints)) (omega (arith, ints)) in
        le_by m (by_ring (q ∷ k ∷ pos d ∷ []) (search quotes depth 60 fits 20000) refl)

    strictly : (z e p k : ℤ) → pos 0 <ℤ e → (pos 2 *ℤ z +ℤ e) <ℤ (pos 2 *ℤ p +ℤ pos 2 *ℤ e) → (p +ℤ e) ≤ℤ k → absolute (p -ℤ z) <ℤ absolute (k -ℤ z)
    strictly z e p k o h l = omega (arith, ints)

    above : (z e p k : ℤ) → pos 0 <ℤ e → (pos 2 *ℤ z +ℤ e) <ℤ (pos 2 *ℤ p +ℤ pos 2 *ℤ e) → (p +ℤ e) ≤ℤ k → absolute (p -ℤ z) ≤ℤ absolute (k -ℤ z)
    above z e p k o h l = omega (arith, ints)

    below : (z e p k : ℤ) → pos 0 <ℤ e → (pos 2 *ℤ p) ≤ℤ (pos 2 *ℤ z +ℤ e) → (k +ℤ e) ≤ℤ p → absolute (p -ℤ z) ≤ℤ absolute (k -ℤ z)
    below z e p k o h l = omega (arith, ints)

    equal : (z : ℤ) (d : ℕ) (q k : ℤ) → k ≤ℤ q → q ≤ℤ k → absolute (q *ℤ pos d -ℤ z) ≤ℤ absolute (k *ℤ pos d -ℤ z)
    equal z d q k h l = let e : q ≡ k = omega (arith, ints) in rw e (≤ℤ_refl (absolute (k *ℤ pos d -ℤ z)))
