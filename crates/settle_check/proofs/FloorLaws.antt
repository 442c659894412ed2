-- Quotients rounded down, against their bounds.
use Rattle.std.proofs.Common.{◌≡◌, ℕ, suc, ◌*◌, ◌/◌, ◌%◌, ◌<◌, [], ◌∷◌, ℤ, pos, negsuc, ◌+ℤ◌, ◌-ℤ◌, ◌*ℤ◌, neg_ℤ, ◌≤ℤ◌, ◌<ℤ◌, unsigned_abs, arith, ap, ◌∙◌, sym, refl}
use Rattle.std.proofs.lemmas.Int.{ints, by_lt_z}
use Rattle.std.proofs.Math.Nat.{one-le-mul}
use Rattle.integer_algebra.specs.Division.{floor_of, round_of}
use Rattle.integer_algebra.proofs.DivisionLaws.{floor_of_is, floor_unique}
use Rattle.integer_algebra.proofs.OrderLaws.{le_by, lt_by, le_of_lt_z, mul-le-mul_right_z, mul_pos_z}
use Rattle.integer_algebra.proofs.RingLaws.{neg-mul_z}
use Rattle.integer_algebra.proofs.Quoting.{by_ring, quotes}

between : (q r z d : ℤ) → pos 0 ≤ℤ d → (q *ℤ d) ≤ℤ z → z <ℤ ((r +ℤ pos 1) *ℤ d) → q ≤ℤ r
between q r z d p h k = by_lt_z r q
    (λ l. absurd (clash _ _ _ (mul-le-mul_right_z d p (next r q l)) h k))
    (λ l. l)
  where
    next : (r q : ℤ) → r <ℤ q → (r +ℤ pos 1) ≤ℤ q
    next r q l = omega (arith, ints)

    clash : (a b z : ℤ) → a ≤ℤ b → b ≤ℤ z → z <ℤ a → ⊥
    clash a b z h k l = omega (arith, ints)

-- what is times d at most z is at most the quotient
pub le-floor : (q z : ℤ) (d : ℕ) → 0 < d → (q *ℤ pos d) ≤ℤ z → q ≤ℤ floor_of z d
le-floor q z d p h = between q (floor_of z d) z (pos d) (omega (arith, ints)) h (floor_of_is z d p).greatest

-- the quotient is at most r where z is below (r + 1) d
pub floor-le : (r z : ℤ) (d : ℕ) → 0 < d → z <ℤ ((r +ℤ pos 1) *ℤ pos d) → floor_of z d ≤ℤ r
floor-le r z d p h = between (floor_of z d) r z (pos d) (omega (arith, ints)) (floor_of_is z d p).least h

-- the quotient of a multiple
pub multiple : (z : ℤ) (d : ℕ) → 0 < d → unsigned_abs z % d ≡ 0 → z ≡ floor_of z d *ℤ pos d
multiple (pos a) d p h = let q : a ≡ a / d * d = omega (arith, h) in ap pos q
multiple (negsuc a) d p h =
    let k = suc a / d in
    let is : suc a ≡ k * d = omega (arith, h) in
    let whole : negsuc a ≡ neg_ℤ (pos k) *ℤ pos d = turned (suc a) k is in
    whole ∙ ap (λ (q : ℤ). q *ℤ pos d) (floor_unique (negsuc a) d (neg_ℤ (pos k)) p (record { least = low _ _ whole; greatest = high _ (neg_ℤ (pos k)) (pos d) (omega (arith, ints)) whole }))
  where
    turned : (n k : ℕ) → n ≡ k * d → neg_ℤ (pos n) ≡ neg_ℤ (pos k) *ℤ pos d
    turned n k e = rw e (sym (neg-mul_z (pos k) (pos d)))

    low : (z y : ℤ) → z ≡ y → y ≤ℤ z
    low z y e = omega (arith, ints, e)

    high : (z q d : ℤ) → pos 0 <ℤ d → z ≡ q *ℤ d → z <ℤ ((q +ℤ pos 1) *ℤ d)
    high z q d p e = rw e (lt_by p (by_ring (q ∷ d ∷ []) (search quotes depth 60 fits 20000) refl))

-- rounded to the nearest it is that
pub round_of_whole : (z : ℤ) (d : ℕ) (q : ℤ) → 0 < d → z ≡ q *ℤ pos d → round_of z d ≡ q
round_of_whole z d q p e =
    let b = ends z q (pos d) (pos (2 * d)) refl e (omega (arith, ints)) in
    sym (floor_unique (pos 2 *ℤ z +ℤ pos d) (2 * d) q (omega arith) (record { least = b.0; greatest = b.1 }))
  where
    ends : (z q e f : ℤ) → f ≡ pos 2 *ℤ e → z ≡ q *ℤ e → pos 0 <ℤ e → ((q *ℤ f) ≤ℤ (pos 2 *ℤ z +ℤ e)) × ((pos 2 *ℤ z +ℤ e) <ℤ ((q +ℤ pos 1) *ℤ f))
    ends z q e f g h p = rw (g, h) (
      le_by (le_of_lt_z p) (by_ring (q ∷ e ∷ []) (search quotes depth 60 fits 20000) refl),
      lt_by p (by_ring (q ∷ e ∷ []) (search quotes depth 60 fits 20000) refl),
    )

-- a common factor is left out
pub floor_scaled : (z : ℤ) (d c : ℕ) → 0 < d → 0 < c → floor_of (z *ℤ pos c) (d * c) ≡ floor_of z d
floor_scaled z d c h k =
    let f = floor_of_is z d h in
    let s = scaled z (floor_of z d) (pos d) (pos c) (omega (arith, ints)) f.least f.greatest in
    sym (floor_unique (z *ℤ pos c) (d * c) (floor_of z d) (positive d c h k) (record { least = s.0; greatest = s.1 }))
  where
    positive : (d c : ℕ) → 0 < d → 0 < c → 0 < d * c
    positive d c h k = let z = one-le-mul h k in omega (arith, z)

    assoc : (q d c : ℤ) → q *ℤ (d *ℤ c) ≡ (q *ℤ d) *ℤ c
    assoc q d c = by_ring (q ∷ d ∷ c ∷ []) (search quotes depth 60 fits 20000) refl

    scaled : (z q d c : ℤ) → pos 0 <ℤ c → (q *ℤ d) ≤ℤ z → z <ℤ ((q +ℤ pos 1) *ℤ d) → ((q *ℤ (d *ℤ c)) ≤ℤ (z *ℤ c)) × ((z *ℤ c) <ℤ ((q +ℤ pos 1) *ℤ (d *ℤ c)))
    scaled z q d c p h k = (
      rw (assoc q d c) (mul-le-mul_right_z c (omega (arith, ints)) h),
      lt_by (mul_pos_z ((q +ℤ pos 1) *ℤ d -ℤ z) c (omega (arith, ints)) p) (by_ring (z ∷ q ∷ d ∷ c ∷ []) (search quotes depth 60 fits 20000) refl),
    )
