-- What operands enclose, the results enclose.
use Rattle.std.proofs.Common.{◌≡◌, ℕ, suc, ◌*◌, ◌/◌, ◌%◌, ◌^◌, ◌<◌, ℤ, pos, negsuc, ◌+ℤ◌, ◌-ℤ◌, ◌*ℤ◌, neg_ℤ, ◌≤ℤ◌, ◌<ℤ◌, unsigned_abs, inl, inr, lit<, [], ◌∷◌, arith, refl, sym, ap}
use Rattle.std.proofs.lemmas.Int.{ints}
use Rattle.integer_algebra.specs.Bounds.{absolute, IsWithin}
use Rattle.integer_algebra.specs.Division.{round_of, ceil_of}
use Rattle.integer_algebra.proofs.BoundLaws.{within_sum, within_more, within_times, within_product}
use Rattle.integer_algebra.proofs.DivisionLaws.{floor_unique, ceil_of_is, round_of_bounds}
use Rattle.std.proofs.lemmas.Bool.{cases_eq}
use Rattle.integer_algebra.proofs.RingLaws.{neg-mul_z}
use Rattle.integer_algebra.proofs.OrderLaws.{le_by, lt_by, le_of_lt_z, mul_pos_z, mul-le-mul_left_z, mul-le-mul_right_z, cancel-le_z}
use Rattle.integer_algebra.proofs.Expression.{v, ◌⊗◌}
use Rattle.integer_algebra.proofs.Certificates.{known, ◌≐◌, eq_by_certificate}
use Rattle.integer_algebra.proofs.Quoting.{by_ring, quotes}
use Rattle.frac_scaled.specs.Enclosures.{Enclosure, Encloses, inexact, divided, enclosed, exactly, sum_of, multiple, whole_product, product_of}

-- ---- within bounds
-- an absolute value is at most a bound where the number is within it
pub absolute_within : (b x : ℤ) → IsWithin b x → absolute x ≤ℤ b
absolute_within b x h = omega (arith, ints, h.below, h.above)

-- and the other way round
pub within_absolute : (b x : ℤ) → absolute x ≤ℤ b → IsWithin b x
within_absolute b x h = record { below = omega (arith, ints, h); above = omega (arith, ints, h) }

-- c x is within c b
within_scaled : (c b x : ℤ) → pos 0 ≤ℤ c → IsWithin b x → IsWithin (c *ℤ b) (c *ℤ x)
within_scaled c b x p h = record {
  below = mul-le-mul_left_z c p h.below;
  above = le_by (mul-le-mul_left_z c p h.above) (by_ring (c ∷ b ∷ x ∷ []) (search quotes depth 60 fits 20000) refl);
}

-- and the other way round
within_cancelled : (c b x : ℤ) → pos 0 <ℤ c → IsWithin (c *ℤ b) (c *ℤ x) → IsWithin b x
within_cancelled c b x p h = record {
  below = cancel-le_z c x b p h.below;
  above = cancel-le_z c (neg_ℤ b) x p (le_by h.above (by_ring (c ∷ b ∷ x ∷ []) (search quotes depth 60 fits 20000) refl));
}

-- x y is within a b
within_mul : (a b x y : ℤ) → IsWithin a x → IsWithin b y → IsWithin (a *ℤ b) (x *ℤ y)
within_mul a b x y h k = record {
  below = le_by (within_product a (neg_ℤ x) b y (record { below = omega (arith, ints, h.above); above = omega (arith, ints, h.below) }) k)
      (by_ring (a ∷ b ∷ x ∷ y ∷ []) (search quotes depth 60 fits 20000) refl);
  above = le_by (within_product a x b y h k) (by_ring (a ∷ b ∷ x ∷ y ∷ []) (search quotes depth 60 fits 20000) refl);
}

-- a number that equals another within a bound
within_same : (b c x y : ℤ) → b ≡ c → x ≡ y → IsWithin b x → IsWithin c y
within_same b c x y e f h = rw (← e, ← f) h

-- ---- rounding
-- where d divides z, z / d is exact
round_exact : (z : ℤ) (d : ℕ) (q : ℤ) → 0 < d → z ≡ q *ℤ pos d → round_of z d *ℤ pos d ≡ z
round_exact z d q p e =
    let sides = exact z q (pos d) (pos (2 * d)) refl e (omega (arith, ints)) in
    let is : q ≡ round_of z d = floor_unique (pos 2 *ℤ z +ℤ pos d) (2 * d) q (omega arith) (record { least = sides.0; greatest = sides.1 }) in
    rw (← is) (sym e)
  where
    exact : (z q e f : ℤ) → f ≡ pos 2 *ℤ e → z ≡ q *ℤ e → pos 0 <ℤ e → ((q *ℤ f) ≤ℤ (pos 2 *ℤ z +ℤ e)) × ((pos 2 *ℤ z +ℤ e) <ℤ ((q +ℤ pos 1) *ℤ f))
    exact z q e f g h p = rw (g, h) (
      le_by (le_of_lt_z p) (by_ring (q ∷ e ∷ []) (search quotes depth 60 fits 20000) refl),
      lt_by p (by_ring (q ∷ e ∷ []) (search quotes depth 60 fits 20000) refl),
    )

-- the quotient of a multiple
quotient_is : (z : ℤ) (d : ℕ) → 0 < d → unsigned_abs z % d ≡ 0 → (q : ℤ) × (z ≡ q *ℤ pos d)
quotient_is (pos a) d p h = (pos (a / d), ap pos (omega (arith, h)))
quotient_is (negsuc a) d p h = (neg_ℤ (pos (suc a / d)), turned (suc a) (suc a / d) (omega (arith, h)))
  where
    turned : (n k : ℕ) → n ≡ k * d → neg_ℤ (pos n) ≡ neg_ℤ (pos k) *ℤ pos d
    turned n k e = rw e (sym (neg-mul_z (pos k) (pos d)))

-- a quotient to the nearest is off by less than 1, and by nothing where it is whole
pub rounded_within : (z : ℤ) (d : ℕ) → 0 < d → IsWithin (inexact z d *ℤ pos d) (z -ℤ round_of z d *ℤ pos d)
rounded_within z d p = elim (cases_eq (unsigned_abs z % d) 0) [
  | inl e ↦
      let q = quotient_is z d p e in
      let exactly : round_of z d *ℤ pos d ≡ z = round_exact z d q.0 p q.1 in
      let none : inexact z d ≡ pos 0 = grind arith in
      rw (none, exactly) (record { below = omega (arith, ints); above = omega (arith, ints) })
  | inr n ↦
      let one : inexact z d ≡ pos 1 = grind arith in
      rw one (near z (round_of z d *ℤ pos d) (pos d) (round_of_bounds z d p).0 (round_of_bounds z d p).1)
]
  where
    near : (z m e : ℤ) → (pos 2 *ℤ m) ≤ℤ (pos 2 *ℤ z +ℤ e) → (pos 2 *ℤ z +ℤ e) <ℤ (pos 2 *ℤ m +ℤ pos 2 *ℤ e) → IsWithin (pos 1 *ℤ e) (z -ℤ m)
    near z m e h k = record { below = omega (arith, ints); above = omega (arith, ints) }

-- ---- over any scale s: m stands for fractions num / den with s num - m den within r den
-- equal fractions
fraction_within : (s m r p q t u : ℤ) → pos 0 <ℤ q → pos 0 ≤ℤ u → p *ℤ u ≡ t *ℤ q → IsWithin (r *ℤ q) (s *ℤ p -ℤ m *ℤ q) → IsWithin (r *ℤ u) (s *ℤ t -ℤ m *ℤ u)
fraction_within s m r p q t u h k e w =
    within_cancelled q (r *ℤ u) (s *ℤ t -ℤ m *ℤ u) h
    (within_same _ _ _ _ (by_ring (r ∷ q ∷ u ∷ []) (search quotes depth 60 fits 20000) refl)
    (moved s m p q t u e) (within_scaled u (r *ℤ q) (s *ℤ p -ℤ m *ℤ q) k w))
  where
    moved : (s m p q t u : ℤ) → p *ℤ u ≡ t *ℤ q → u *ℤ (s *ℤ p -ℤ m *ℤ q) ≡ q *ℤ (s *ℤ t -ℤ m *ℤ u)
    moved s m p q t u e = eq_by_certificate (s ∷ m ∷ p ∷ q ∷ t ∷ u ∷ []) (search quotes depth 60 fits 20000) (known _ (v 2 ⊗ v 5 ≐ v 4 ⊗ v 3) e ∷ []) (v 0 ∷ []) refl

-- sums
sum_within : (s m r n o p q t u : ℤ) → pos 0 ≤ℤ q → pos 0 ≤ℤ u → IsWithin (r *ℤ q) (s *ℤ p -ℤ m *ℤ q) → IsWithin (o *ℤ u) (s *ℤ t -ℤ n *ℤ u) →
    IsWithin ((r +ℤ o) *ℤ (q *ℤ u)) (s *ℤ (p *ℤ u +ℤ t *ℤ q) -ℤ (m +ℤ n) *ℤ (q *ℤ u))
sum_within s m r n o p q t u h k y w =
    within_same _ _ _ _
    (by_ring (r ∷ o ∷ q ∷ u ∷ []) (search quotes depth 60 fits 20000) refl)
    (by_ring (s ∷ m ∷ n ∷ p ∷ q ∷ t ∷ u ∷ []) (search quotes depth 60 fits 20000) refl)
    (within_sum _ _ _ _ (within_scaled u _ _ k y) (within_scaled q _ _ h w))

-- sums over one denominator
common_within : (s m r n o p q t : ℤ) → IsWithin (r *ℤ q) (s *ℤ p -ℤ m *ℤ q) → IsWithin (o *ℤ q) (s *ℤ t -ℤ n *ℤ q) →
    IsWithin ((r +ℤ o) *ℤ q) (s *ℤ (p +ℤ t) -ℤ (m +ℤ n) *ℤ q)
common_within s m r n o p q t y w =
    within_same _ _ _ _
    (by_ring (r ∷ o ∷ q ∷ []) (search quotes depth 60 fits 20000) refl)
    (by_ring (s ∷ m ∷ n ∷ p ∷ q ∷ t ∷ []) (search quotes depth 60 fits 20000) refl)
    (within_sum _ _ _ _ y w)

-- multiples
multiple_within : (s m r p q c : ℤ) → IsWithin (r *ℤ q) (s *ℤ p -ℤ m *ℤ q) → IsWithin ((absolute c *ℤ r) *ℤ q) (s *ℤ (c *ℤ p) -ℤ (c *ℤ m) *ℤ q)
multiple_within s m r p q c w =
    within_same _ _ _ _
    (by_ring (absolute c ∷ r ∷ q ∷ []) (search quotes depth 60 fits 20000) refl)
    (by_ring (c ∷ s ∷ m ∷ p ∷ q ∷ []) (search quotes depth 60 fits 20000) refl)
    (within_times (r *ℤ q) (s *ℤ p -ℤ m *ℤ q) c w)

-- products
product_within : (s m r n o p q t u : ℤ) → pos 0 ≤ℤ q → pos 0 ≤ℤ u → IsWithin (r *ℤ q) (s *ℤ p -ℤ m *ℤ q) → IsWithin (o *ℤ u) (s *ℤ t -ℤ n *ℤ u) →
    IsWithin ((absolute m *ℤ o +ℤ r *ℤ absolute n +ℤ r *ℤ o) *ℤ (q *ℤ u)) (s *ℤ (s *ℤ (p *ℤ t)) -ℤ (m *ℤ n) *ℤ (q *ℤ u))
product_within s m r n o p q t u h k y w =
    let first = within_scaled q _ _ h (within_times (o *ℤ u) (s *ℤ t -ℤ n *ℤ u) m w) in
    let second = within_scaled u _ _ k (within_times (r *ℤ q) (s *ℤ p -ℤ m *ℤ q) n y) in
    let third = within_mul _ _ _ _ y w in
    within_same _ _ _ _
    (by_ring (absolute m ∷ absolute n ∷ r ∷ o ∷ q ∷ u ∷ []) (search quotes depth 60 fits 20000) refl)
    (by_ring (s ∷ m ∷ n ∷ p ∷ q ∷ t ∷ u ∷ []) (search quotes depth 60 fits 20000) refl)
    (within_sum _ _ _ _ (within_sum _ _ _ _ first second) third)

-- quotients: k is m / e but for i, and j is at least r / e
divided_within : (s m r p q k i j e : ℤ) → pos 0 ≤ℤ q → IsWithin (i *ℤ e) (m -ℤ k *ℤ e) → r ≤ℤ (j *ℤ e) → IsWithin (r *ℤ q) (s *ℤ p -ℤ m *ℤ q) →
    IsWithin ((j +ℤ i) *ℤ (q *ℤ e)) (s *ℤ p -ℤ k *ℤ (q *ℤ e))
divided_within s m r p q k i j e h near high w =
    let first = within_more _ _ _ w (mul-le-mul_right_z q h high) in
    let second = within_scaled q _ _ h near in
    within_same _ _ _ _
    (by_ring (i ∷ j ∷ e ∷ q ∷ []) (search quotes depth 60 fits 20000) refl)
    (by_ring (s ∷ m ∷ p ∷ q ∷ k ∷ e ∷ []) (search quotes depth 60 fits 20000) refl)
    (within_sum _ _ _ _ first second)

-- ---- enclosures
-- as a bound
pub encloses_within : {e : Enclosure} {p q : ℤ} → Encloses e p q → IsWithin (e.rad *ℤ q) (pos (2 ^ 40) *ℤ p -ℤ e.mid *ℤ q)
encloses_within {e} {p} {q} h = within_absolute _ _ h.near

-- and from one
pub within_encloses : (e : Enclosure) (p q : ℤ) → IsWithin (e.rad *ℤ q) (pos (2 ^ 40) *ℤ p -ℤ e.mid *ℤ q) → Encloses e p q
within_encloses e p q h = record { near = absolute_within _ _ h }

-- equal fractions are enclosed together
pub fraction_law : (e : Enclosure) (p q t u : ℤ) → pos 1 ≤ℤ q → pos 1 ≤ℤ u → p *ℤ u ≡ t *ℤ q → Encloses e p q → Encloses e t u
fraction_law e p q t u h k same w =
    within_encloses e t u (fraction_within (pos (2 ^ 40)) e.mid e.rad p q t u (omega (arith, ints)) (omega (arith, ints)) same (encloses_within w))

-- a fraction's own enclosure
pub enclosed_law : (num : ℤ) (den : ℕ) → 0 < den → Encloses (enclosed num den) num (pos den)
enclosed_law num den p = within_encloses _ _ _ (rounded_within (pos (2 ^ 40) *ℤ num) den p)

-- a whole number, over any denominator
pub whole_law : (n q : ℤ) → Encloses (exactly n) (n *ℤ q) q
whole_law n q = within_encloses _ _ _ (exact _ _ (by_ring (q ∷ []) (search quotes depth 60 fits 20000) refl) (by_ring (n ∷ q ∷ []) (search quotes depth 60 fits 20000) refl))
  where
    exact : (b x : ℤ) → b ≡ pos 0 → x ≡ pos 0 → IsWithin b x
    exact b x e f = rw (e, f) (record { below = omega (arith, ints); above = omega (arith, ints) })

-- a sum
pub sum_law : (a b : Enclosure) (p q t u : ℤ) → pos 1 ≤ℤ q → pos 1 ≤ℤ u → Encloses a p q → Encloses b t u → Encloses (sum_of a b) (p *ℤ u +ℤ t *ℤ q) (q *ℤ u)
sum_law a b p q t u h k y w =
    within_encloses _ _ _ (sum_within (pos (2 ^ 40)) a.mid a.rad b.mid b.rad p q t u (omega (arith, ints)) (omega (arith, ints)) (encloses_within y) (encloses_within w))

-- a sum over one denominator
pub common_law : (a b : Enclosure) (p t q : ℤ) → Encloses a p q → Encloses b t q → Encloses (sum_of a b) (p +ℤ t) q
common_law a b p t q y w =
    within_encloses _ _ _ (common_within (pos (2 ^ 40)) a.mid a.rad b.mid b.rad p q t (encloses_within y) (encloses_within w))

-- a multiple
pub multiple_law : (c : ℤ) (a : Enclosure) (p q : ℤ) → Encloses a p q → Encloses (multiple c a) (c *ℤ p) q
multiple_law c a p q w = within_encloses _ _ _ (multiple_within (pos (2 ^ 40)) a.mid a.rad p q c (encloses_within w))

-- a product without rounding
pub whole_product_law : (a b : Enclosure) (p q t u : ℤ) → pos 0 ≤ℤ q → pos 0 ≤ℤ u → Encloses a p q → Encloses b t u →
    Encloses (whole_product a b) (pos (2 ^ 40) *ℤ (p *ℤ t)) (q *ℤ u)
whole_product_law a b p q t u h k y w =
    within_encloses _ _ _ (product_within (pos (2 ^ 40)) a.mid a.rad b.mid b.rad p q t u h k (encloses_within y) (encloses_within w))

-- a quotient
pub divided_law : (e : Enclosure) (d : ℕ) (p q : ℤ) → 0 < d → pos 0 ≤ℤ q → Encloses e p q → Encloses (divided e d) p (q *ℤ pos d)
divided_law e d p q l h w =
    within_encloses _ _ _ (divided_within (pos (2 ^ 40)) e.mid e.rad p q (round_of e.mid d) (inexact e.mid d) (ceil_of e.rad d) (pos d) h
    (rounded_within e.mid d l) (ceil_of_is e.rad d l).greatest (encloses_within w))

-- a quotient by the scale
pub unscaled_law : (e : Enclosure) (p q : ℤ) → pos 1 ≤ℤ q → Encloses e (pos (2 ^ 40) *ℤ p) q → Encloses (divided e (2 ^ 40)) p q
unscaled_law e p q h w =
    let o : pos 0 ≤ℤ q = omega (arith, ints) in
    fraction_law _ (pos (2 ^ 40) *ℤ p) (q *ℤ pos (2 ^ 40)) p q (omega (arith, ints)) h
    (by_ring (p ∷ q ∷ []) (search quotes depth 60 fits 20000) refl) (divided_law e (2 ^ 40) (pos (2 ^ 40) *ℤ p) q (lit< tt) o w)

-- a product
pub product_law : (a b : Enclosure) (p q t u : ℤ) → pos 1 ≤ℤ q → pos 1 ≤ℤ u → Encloses a p q → Encloses b t u → Encloses (product_of a b) (p *ℤ t) (q *ℤ u)
product_law a b p q t u h k y w =
    unscaled_law (whole_product a b) (p *ℤ t) (q *ℤ u) (at_least q u h k) (whole_product_law a b p q t u (omega (arith, ints)) (omega (arith, ints)) y w)
  where
    at_least : (q u : ℤ) → pos 1 ≤ℤ q → pos 1 ≤ℤ u → pos 1 ≤ℤ (q *ℤ u)
    at_least q u h k = let l = mul_pos_z q u (omega (arith, ints)) (omega (arith, ints)) in omega (arith, ints, l)
