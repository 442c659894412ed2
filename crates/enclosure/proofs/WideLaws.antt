-- Quotients with what is left of them: of twice a number, rounded, and how far a fraction is by its quotient.
use Rattle.std.proofs.Common.{◌≡◌, ℕ, ◌+◌, ◌%◌, ◌^◌, ◌<◌, [], ◌∷◌, ℤ, pos, negsuc, neg_ℤ, ◌+ℤ◌, ◌-ℤ◌, ◌*ℤ◌, ◌≤ℤ◌, ◌<ℤ◌, unsigned_abs, arith, refl, ap, sym, subst, ◌∙◌, IsSome, Option, None, ◌↔◌}
use Rattle.std.specs.Int.{int_rem_euclid}
use Rattle.std.proofs.Math.Nat.{mul-mod_left}
use Rattle.std.proofs.lemmas.Int.{ints, by_lt_z, unsigned_abs-mul}
use Rattle.integer_algebra.specs.Bounds.{absolute, IsWithin}
use Rattle.integer_algebra.specs.Division.{floor_of, ceil_of, round_of}
use Rattle.integer_algebra.proofs.DivisionLaws.{floor_of_is, ceil_of_is, floor_unique}
use Rattle.integer_algebra.proofs.OrderLaws.{mul-le-mul_right_z}
use Rattle.integer_algebra.proofs.PowerLaws.{two-pow-more}
use Rattle.integer_algebra.proofs.Quoting.{by_ring, quotes}
use Rattle.frac_scaled.specs.Enclosures.{magnitude, inexact, divided, enclosed}
use Rattle.frac_scaled.proofs.EnclosureLaws.{rounded_within, encloses_within, enclosed_law}
use Rattle.frac_scaled.proofs.Rounding.{quotient_rest, nearest_down, nearest_up}
use Rattle.enclosure.specs.Wide.{IsQuotient}
use Rattle.enclosure.proofs.RoomLaws.{same_pair, reach_is, inexact_small, ceil_small}

-- ---- of twice a number
pub doubled_low : (z b q r : ℤ) → IsQuotient z b q r → r <ℤ (b -ℤ r) → IsQuotient (pos 2 *ℤ z) b (pos 2 *ℤ q) (pos 2 *ℤ r)
doubled_low z b q r h k = record {
  sum = ap (λ (n : ℤ). pos 2 *ℤ n) h.sum ∙ by_ring (b ∷ q ∷ r ∷ []) (search quotes depth 60 fits 20000) refl;
  low = omega (arith, ints, h.low);
  high = omega (arith, ints, k);
}

pub doubled_high : (z b q r : ℤ) → IsQuotient z b q r → (b -ℤ r) ≤ℤ r → IsQuotient (pos 2 *ℤ z) b (pos 2 *ℤ q +ℤ pos 1) (r -ℤ (b -ℤ r))
doubled_high z b q r h k = record {
  sum = ap (λ (n : ℤ). pos 2 *ℤ n) h.sum ∙ by_ring (b ∷ q ∷ r ∷ []) (search quotes depth 60 fits 20000) refl;
  low = omega (arith, ints, k);
  high = omega (arith, ints, h.high);
}

-- ---- the first, and the next in a row of doublings
pub first_quotient : (z b q r : ℤ) → pos 1 ≤ℤ b → q ≡ floor_of z (unsigned_abs b) → r ≡ int_rem_euclid z b → pos 0 ≤ℤ r → r <ℤ b → IsQuotient (pos (2 ^ 0) *ℤ z) b q r
first_quotient z (pos d) q r p e f h k = record {
  sum = once z ∙ rw (e, f) (quotient_rest z d (omega (arith, ints)));
  low = h;
  high = k;
}
  where
    once : (z : ℤ) → pos 1 *ℤ z ≡ z
    once z = by_ring (z ∷ []) (search quotes depth 60 fits 20000) refl
first_quotient z (negsuc d) q r p e f h k = absurd p.le

pub next_quotient : (i : ℕ) (z b q r : ℤ) → IsQuotient (pos 2 *ℤ (pos (2 ^ i) *ℤ z)) b q r → IsQuotient (pos (2 ^ (i + 1)) *ℤ z) b q r
next_quotient i z b q r h = subst (λ (n : ℤ). IsQuotient n b q r) (moved (pos (2 ^ i)) (pos (2 ^ (i + 1))) z (ap pos (two-pow-more i))) h
  where
    moved : (p n z : ℤ) → n ≡ pos 2 *ℤ p → pos 2 *ℤ (p *ℤ z) ≡ n *ℤ z
    moved p n z e = rw e (by_ring (p ∷ z ∷ []) (search quotes depth 60 fits 20000) refl)

-- ---- to the nearest
pub nearest_below : (z b q r : ℤ) → IsQuotient z b q r → r <ℤ (b -ℤ r) → q ≡ round_of z (unsigned_abs b)
nearest_below z (pos d) q r h k = nearest_down z q r d (omega (arith, ints, h.low, h.high)) h.sum h.low k
nearest_below z (negsuc d) q r h k = absurd (omega (arith, ints, h.low, h.high))

pub nearest_above : (z b q r : ℤ) → IsQuotient z b q r → (b -ℤ r) ≤ℤ r → q +ℤ pos 1 ≡ round_of z (unsigned_abs b)
nearest_above z (pos d) q r h k = nearest_up z q r d (omega (arith, ints, h.low, h.high)) h.sum h.high k
nearest_above z (negsuc d) q r h k = absurd (omega (arith, ints, h.low, h.high))

-- ---- what is left
pub none_left : (z b q r : ℤ) → IsQuotient z b q r → r ≡ pos 0 → pos 0 ≡ inexact z (unsigned_abs b)
none_left z b q r h e =
    let is : z ≡ q *ℤ b = omega (arith, ints, h.sum, e) in
    let size = ap unsigned_abs is ∙ unsigned_abs-mul q b in
    let whole = ap (λ (n : ℕ). n % unsigned_abs b) size ∙ mul-mod_left (unsigned_abs q) (unsigned_abs b) in
    sym (exact z (unsigned_abs b) whole)
  where
    exact : (z : ℤ) (d : ℕ) → unsigned_abs z % d ≡ 0 → inexact z d ≡ pos 0
    exact z d e = grind arith

-- one number has not two quotients
twice : (z m q r e : ℤ) → z ≡ m *ℤ e → z ≡ q *ℤ e +ℤ r → pos 1 ≤ℤ r → r <ℤ e → ⊥
twice z m q r e f g h k =
    let positive : pos 0 ≤ℤ e = omega (arith, ints) in
    by_lt_z q m
    (λ l. let more : (q +ℤ pos 1) *ℤ e ≡ q *ℤ e +ℤ e = by_ring (q ∷ e ∷ []) (search quotes depth 60 fits 20000) refl in
    over (q *ℤ e) (m *ℤ e) _ z r e more (mul-le-mul_right_z e positive (next q m l)) f g k)
    (λ l. under (q *ℤ e) (m *ℤ e) z r (mul-le-mul_right_z e positive l) f g h)
  where
    next : (q m : ℤ) → q <ℤ m → (q +ℤ pos 1) ≤ℤ m
    next q m l = omega (arith, ints, l)

    over : (a b c z r e : ℤ) → c ≡ a +ℤ e → c ≤ℤ b → z ≡ b → z ≡ a +ℤ r → r <ℤ e → ⊥
    over a b c z r e h l f g k = omega (arith, ints)

    under : (a b z r : ℤ) → b ≤ℤ a → z ≡ b → z ≡ a +ℤ r → pos 1 ≤ℤ r → ⊥
    under a b z r l f g h = omega (arith, ints)

pub some_left : (z b q r : ℤ) → IsQuotient z b q r → pos 1 ≤ℤ r → pos 1 ≡ inexact z (unsigned_abs b)
some_left z (negsuc d) q r h k = absurd (omega (arith, ints, h.low, h.high))
some_left z (pos d) q r h k =
    let small = inexact_small z d in
    by_lt_z (pos 0) (inexact z d) (λ l. one (inexact z d) l small.1)
    (λ l. absurd (twice z (round_of z d) q r (pos d)
    (exact (inexact z d *ℤ pos d) z (round_of z d *ℤ pos d) (times_none (inexact z d) (pos d) (none (inexact z d) small.0 l)) (rounded_within z d (omega (arith, ints, h.low, h.high))))
    h.sum k h.high))
  where
    one : (i : ℤ) → pos 0 <ℤ i → i ≤ℤ pos 1 → pos 1 ≡ i
    one i h k = omega (arith, ints)

    none : (i : ℤ) → pos 0 ≤ℤ i → i ≤ℤ pos 0 → i ≡ pos 0
    none i h k = omega (arith, ints)

    times_none : (a b : ℤ) → a ≡ pos 0 → a *ℤ b ≡ pos 0
    times_none a b e = rw e (by_ring (b ∷ []) (search quotes depth 60 fits 20000) refl)

    exact : (n z m : ℤ) → n ≡ pos 0 → IsWithin n (z -ℤ m) → z ≡ m
    exact n z m e w = omega (arith, ints, e, w.below, w.above)

-- ---- a fraction that is too far
above : (m r z f e : ℤ) → pos 1 ≤ℤ e → pos (2 ^ 86 + 1) ≤ℤ f → (f *ℤ e) ≤ℤ z → (pos (2 ^ 40) *ℤ z -ℤ m *ℤ e) ≤ℤ (r *ℤ e) → (m +ℤ r) ≤ℤ pos (2 ^ 126) → ⊥
above m r z f e p h k w l =
    let positive : pos 0 ≤ℤ e = omega (arith, ints) in
    let far = mul-le-mul_right_z e positive h in
    let near = mul-le-mul_right_z e positive l in
    let split : (m +ℤ r) *ℤ e ≡ m *ℤ e +ℤ r *ℤ e = by_ring (m ∷ r ∷ e ∷ []) (search quotes depth 60 fits 20000) refl in
    omega (arith, ints, p, far, near, split, k, w)

below : (m r z f e : ℤ) → pos 1 ≤ℤ e → (f +ℤ pos 1) ≤ℤ neg_ℤ (pos (2 ^ 86)) → z <ℤ ((f +ℤ pos 1) *ℤ e) → neg_ℤ (r *ℤ e) ≤ℤ (pos (2 ^ 40) *ℤ z -ℤ m *ℤ e) →
    (neg_ℤ m +ℤ r) ≤ℤ pos (2 ^ 126) → ⊥
below m r z f e p h k w l =
    let positive : pos 0 ≤ℤ e = omega (arith, ints) in
    let far = mul-le-mul_right_z e positive h in
    let near = mul-le-mul_right_z e positive l in
    let split : (neg_ℤ m +ℤ r) *ℤ e ≡ r *ℤ e -ℤ m *ℤ e = by_ring (m ∷ r ∷ e ∷ []) (search quotes depth 60 fits 20000) refl in
    omega (arith, ints, p, far, near, split, k, w)

pub too_far : (z b : ℤ) → pos 1 ≤ℤ b → 2 ^ 86 < unsigned_abs (floor_of z (unsigned_abs b)) → magnitude (enclosed z (unsigned_abs b)) ≤ℤ pos (2 ^ 126) → ⊥
too_far z (negsuc d) p h l = absurd p.le
too_far z (pos d) p h l =
    let some : 0 < d = omega (arith, ints, p) in
    let floor = floor_of_is z d some in
    let w = encloses_within (enclosed_law z d some) in
    let e = enclosed z d in
    by_lt_z (floor_of z d) (pos 0)
    (λ n. below e.mid e.rad z (floor_of z d) (pos d) p (low (floor_of z d) n h) floor.greatest w.above (left e.mid e.rad l))
    (λ n. above e.mid e.rad z (floor_of z d) (pos d) p (high (floor_of z d) n h) floor.least w.below (right e.mid e.rad l))
  where
    low : (f : ℤ) → f <ℤ pos 0 → 2 ^ 86 < unsigned_abs f → (f +ℤ pos 1) ≤ℤ neg_ℤ (pos (2 ^ 86))
    low f n h = omega (arith, ints, n, h)

    high : (f : ℤ) → pos 0 ≤ℤ f → 2 ^ 86 < unsigned_abs f → pos (2 ^ 86 + 1) ≤ℤ f
    high f n h = omega (arith, ints, n, h)

    left : (m r : ℤ) → (absolute m +ℤ r) ≤ℤ pos (2 ^ 126) → (neg_ℤ m +ℤ r) ≤ℤ pos (2 ^ 126)
    left m r h = omega (arith, ints, h)

    right : (m r : ℤ) → (absolute m +ℤ r) ≤ℤ pos (2 ^ 126) → (m +ℤ r) ≤ℤ pos (2 ^ 126)
    right m r h = omega (arith, ints, h)

-- ---- with a radius
-- a quotient rounded up, where nothing is left
pub raised_whole : (z b q r : ℤ) → IsQuotient z b q r → r ≡ pos 0 → q ≡ ceil_of z (unsigned_abs b)
raised_whole z (negsuc d) q r h e = absurd (omega (arith, ints, h.low, h.high))
raised_whole z (pos d) q r h e =
    turned q _ (floor_unique (neg_ℤ z) d (neg_ℤ q) (omega (arith, ints, h.low, h.high)) (record { least = least z q r (pos d) h.sum e; greatest = greatest z q r (pos d) h.sum e h.high }))
  where
    turned : (q f : ℤ) → neg_ℤ q ≡ f → q ≡ neg_ℤ f
    turned q f e = omega (arith, ints, e)

    least : (z q r e : ℤ) → z ≡ q *ℤ e +ℤ r → r ≡ pos 0 → (neg_ℤ q *ℤ e) ≤ℤ neg_ℤ z
    least z q r e f g = let n : neg_ℤ q *ℤ e ≡ neg_ℤ (q *ℤ e) = by_ring (q ∷ e ∷ []) (search quotes depth 60 fits 20000) refl in omega (arith, ints, n, f, g)

    greatest : (z q r e : ℤ) → z ≡ q *ℤ e +ℤ r → r ≡ pos 0 → r <ℤ e → neg_ℤ z <ℤ ((neg_ℤ q +ℤ pos 1) *ℤ e)
    greatest z q r e f g h = let n : (neg_ℤ q +ℤ pos 1) *ℤ e ≡ e -ℤ q *ℤ e = by_ring (q ∷ e ∷ []) (search quotes depth 60 fits 20000) refl in omega (arith, ints, n, f, g, h)

-- and where something is
pub raised_more : (z b q r : ℤ) → IsQuotient z b q r → pos 1 ≤ℤ r → q +ℤ pos 1 ≡ ceil_of z (unsigned_abs b)
raised_more z (negsuc d) q r h e = absurd (omega (arith, ints, h.low, h.high))
raised_more z (pos d) q r h e =
    turned q _ (floor_unique (neg_ℤ z) d (neg_ℤ q -ℤ pos 1) (omega (arith, ints, h.low, h.high)) (record { least = least z q r (pos d) h.sum h.high; greatest = greatest z q r (pos d) h.sum e }))
  where
    turned : (q f : ℤ) → neg_ℤ q -ℤ pos 1 ≡ f → q +ℤ pos 1 ≡ neg_ℤ f
    turned q f e = omega (arith, ints, e)

    least : (z q r e : ℤ) → z ≡ q *ℤ e +ℤ r → r <ℤ e → ((neg_ℤ q -ℤ pos 1) *ℤ e) ≤ℤ neg_ℤ z
    least z q r e f g = let n : (neg_ℤ q -ℤ pos 1) *ℤ e ≡ neg_ℤ (q *ℤ e) -ℤ e = by_ring (q ∷ e ∷ []) (search quotes depth 60 fits 20000) refl in omega (arith, ints, n, f, g)

    greatest : (z q r e : ℤ) → z ≡ q *ℤ e +ℤ r → pos 1 ≤ℤ r → neg_ℤ z <ℤ ((neg_ℤ q -ℤ pos 1 +ℤ pos 1) *ℤ e)
    greatest z q r e f g = let n : (neg_ℤ q -ℤ pos 1 +ℤ pos 1) *ℤ e ≡ neg_ℤ (q *ℤ e) = by_ring (q ∷ e ∷ []) (search quotes depth 60 fits 20000) refl in omega (arith, ints, n, f, g)

-- a midpoint that is too far, whatever the radius
pub too_far_within : (z s b : ℤ) → pos 1 ≤ℤ b → pos 0 ≤ℤ s → 2 ^ 86 < unsigned_abs (floor_of z (unsigned_abs b)) →
    magnitude (divided (record { mid = pos (2 ^ 40) *ℤ z; rad = pos (2 ^ 40) *ℤ s }) (unsigned_abs b)) ≤ℤ pos (2 ^ 126) → ⊥
too_far_within z s b p ps h l = too_far z b p h (under (round_of (pos (2 ^ 40) *ℤ z) (unsigned_abs b)) (ceil_of (pos (2 ^ 40) *ℤ s) (unsigned_abs b)) (inexact (pos (2 ^ 40) *ℤ z) (unsigned_abs b))
    (ceil_small (pos (2 ^ 40) *ℤ s) (unsigned_abs b) (scaled s ps) (omega (arith, ints, p))).0 l)
  where
    scaled : (s : ℤ) → pos 0 ≤ℤ s → pos 0 ≤ℤ (pos (2 ^ 40) *ℤ s)
    scaled s h = omega (arith, ints, h)

    under : (m c i : ℤ) → pos 0 ≤ℤ c → (absolute m +ℤ (c +ℤ i)) ≤ℤ pos (2 ^ 126) → (absolute m +ℤ i) ≤ℤ pos (2 ^ 126)
    under m c i h k = omega (arith, ints, h, k)

-- and a radius that is
pub too_wide : (z s b : ℤ) → pos 1 ≤ℤ b → pos 0 ≤ℤ s → 2 ^ 86 < unsigned_abs (floor_of s (unsigned_abs b)) →
    magnitude (divided (record { mid = pos (2 ^ 40) *ℤ z; rad = pos (2 ^ 40) *ℤ s }) (unsigned_abs b)) ≤ℤ pos (2 ^ 126) → ⊥
too_wide z s (negsuc d) p ps h l = absurd p.le
too_wide z s (pos d) p ps h l =
    let some : 0 < d = omega (arith, ints, p) in
    let floor = floor_of_is s d some in
    let up = ceil_of_is (pos (2 ^ 40) *ℤ s) d some in
    under (round_of (pos (2 ^ 40) *ℤ z) d) (ceil_of (pos (2 ^ 40) *ℤ s) d) (inexact (pos (2 ^ 40) *ℤ z) d) s (floor_of s d) (pos d) p (inexact_small (pos (2 ^ 40) *ℤ z) d).0
    (high (floor_of s d) (by_lt_z (floor_of s d) (pos 0) (λ n. absurd (negative s (floor_of s d) (pos d) ps p n floor.greatest)) (λ n. n)) h) floor.least up.greatest l
  where
    high : (f : ℤ) → pos 0 ≤ℤ f → 2 ^ 86 < unsigned_abs f → pos (2 ^ 86 + 1) ≤ℤ f
    high f n h = omega (arith, ints, n, h)

    negative : (s f e : ℤ) → pos 0 ≤ℤ s → pos 1 ≤ℤ e → f <ℤ pos 0 → s <ℤ ((f +ℤ pos 1) *ℤ e) → ⊥
    negative s f e h p n g =
        let positive : pos 0 ≤ℤ e = omega (arith, ints) in
        let top : (f +ℤ pos 1) ≤ℤ pos 0 = omega (arith, ints, n) in
        let none : pos 0 *ℤ e ≡ pos 0 = by_ring (e ∷ []) (search quotes depth 60 fits 20000) refl in
        let far = mul-le-mul_right_z e positive top in omega (arith, ints, far, none, g, h)

    under : (m c i s f e : ℤ) → pos 1 ≤ℤ e → pos 0 ≤ℤ i → pos (2 ^ 86 + 1) ≤ℤ f → (f *ℤ e) ≤ℤ s → (pos (2 ^ 40) *ℤ s) ≤ℤ (c *ℤ e) → (absolute m +ℤ (c +ℤ i)) ≤ℤ pos (2 ^ 126) → ⊥
    under m c i s f e p h g k w l =
        let positive : pos 0 ≤ℤ e = omega (arith, ints) in
        let small : c ≤ℤ pos (2 ^ 126) = omega (arith, ints, h, l) in
        let far = mul-le-mul_right_z e positive g in
        let near = mul-le-mul_right_z e positive small in
        omega (arith, ints, p, far, near, k, w)

-- ---- what the calls answer
-- what is refused because it is too far
pub none_of : {T : Type 0} (o : Option T) (z : ℤ) → o ≡ None → (z ≤ℤ pos (2 ^ 126) → ⊥) → IsSome o ↔ (z ≤ℤ pos (2 ^ 126))
none_of o z e f = rw e (λ s. cc, λ k. absurd (f k))

-- what the sum of a midpoint's size and a radius says
pub covered : (m r n s : ℤ) (z : ℕ) → m ≡ n → r ≡ s → pos 0 ≤ℤ r → z ≡ unsigned_abs m + unsigned_abs r → magnitude (record { mid = n; rad = s }) ≡ pos (z + 0)
covered m r n s z e f h k = ap magnitude (sym (same_pair e f)) ∙ reach_is m r h ∙ ap pos (omega (arith, k))
