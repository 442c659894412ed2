-- Rounding to the nearest by two floors.
use Rattle.std.proofs.Common.{◌≡◌, ℕ, zero, suc, ◌+◌, ◌-◌, ◌*◌, ◌/◌, ◌^◌, ◌<◌, ℤ, pos, negsuc, ◌+ℤ◌, ◌-ℤ◌, ◌*ℤ◌, inl, inr, arith, refl, sym, ap, ◌∙◌, FitsSigned, unsigned_abs, ◌≤ℤ◌, ◌<ℤ◌, [], ◌∷◌}
use Rattle.std.proofs.lemmas.Bool.{cases_lt}
use Rattle.std.proofs.lemmas.Int.{ints}
use Rattle.std.proofs.Math.Nat.{pow-succ', div-div-eq-div-mul, add-div_right}
use Rattle.std.specs.Int.{w128, int_rem_euclid}
use Rattle.std.specs.Int.Signed.{mag_shr}
use Rattle.integer_algebra.specs.Division.{floor_of, round_of}
use Rattle.integer_algebra.proofs.DivisionLaws.{floor_unique}
use Rattle.integer_algebra.proofs.OrderLaws.{le_by, lt_by, add_nonneg_z}
use Rattle.integer_algebra.proofs.Quoting.{by_ring, quotes}

-- (2 x + 1) / 4 e is x / 2 e, and 2 x / 4 e too
quarter : (x r e : ℕ) → r < 2 → (2 * x + r) / (2 * (2 * e)) ≡ x / (2 * e)
quarter x r e h =
    let front : (2 * x + r) / 2 ≡ x = omega arith in
    sym (div-div-eq-div-mul (2 * x + r) 2 (2 * e)) ∙ ap (λ (y : ℕ). y / (2 * e)) front

-- a quotient and a half, rounded down
half_of_more : (a e : ℕ) → 0 < e → (a + e) / (2 * e) ≡ (a / e + 1) / 2
half_of_more a e h =
    let swap : 2 * e ≡ e * 2 = omega arith in
    ap (λ (y : ℕ). (a + e) / y) swap ∙ sym (div-div-eq-div-mul (a + e) e 2) ∙ ap (λ (y : ℕ). y / 2) (add-div_right a h)

-- a quotient below 1
below : (a e : ℕ) → a < e → a / e ≡ 0
below a e h = grind arith

-- the rounded quotient, where twice the number and the divisor are not negative together
at_sum : (z : ℤ) (e n r : ℕ) → r < 2 → pos 2 *ℤ z +ℤ pos (2 * e) ≡ pos (2 * n + r) → round_of z (2 * e) ≡ pos (n / (2 * e))
at_sum z e n r h is = ap (λ (y : ℤ). floor_of y (2 * (2 * e))) is ∙ ap pos (quarter n r e h)

-- and where they are negative
at_minus : (z : ℤ) (e n r : ℕ) → r < 2 → pos 2 *ℤ z +ℤ pos (2 * e) ≡ negsuc (2 * n + r) → round_of z (2 * e) ≡ negsuc (n / (2 * e))
at_minus z e n r h is = ap (λ (y : ℤ). floor_of y (2 * (2 * e))) is ∙ ap negsuc (quarter n r e h)

-- the floor at half the divisor, less half of itself, rounds at the divisor
pub half_up : (z : ℤ) (e : ℕ) → 0 < e → floor_of z e -ℤ floor_of (floor_of z e) 2 ≡ round_of z (2 * e)
half_up (pos a) e h =
    let right = at_sum (pos a) e (a + e) 0 (omega arith) (omega (arith, ints)) in
    let middle = half_of_more a e h in
    let left : pos (a / e) -ℤ pos (a / e / 2) ≡ pos ((a / e + 1) / 2) = omega (arith, ints) in
    left ∙ ap pos (sym middle) ∙ sym right
half_up (negsuc a) e h =
    elim (cases_lt a e) [
      | inl lt ↦
          let none : a / e ≡ 0 = below a e lt in
          let right = at_sum (negsuc a) e (e - (a + 1)) 0 (omega arith) (omega (arith, ints)) in
          let zero_is : (e - (a + 1)) / (2 * e) ≡ 0 = below (e - (a + 1)) (2 * e) (omega arith) in
          let left : negsuc (a / e) -ℤ negsuc (a / e / 2) ≡ pos 0 = omega (arith, ints, none) in
          left ∙ ap pos (sym zero_is) ∙ sym right
      | inr le ↦
          let b = a - e in
          let is : a ≡ b + e = omega arith in
          let more : a / e ≡ b / e + 1 = ap (λ (y : ℕ). y / e) is ∙ add-div_right b h in
          let right = at_minus (negsuc a) e b 1 (omega arith) (omega (arith, ints)) in
          let swap : 2 * e ≡ e * 2 = omega arith in
          let middle : b / (2 * e) ≡ b / e / 2 = ap (λ (y : ℕ). b / y) swap ∙ sym (div-div-eq-div-mul b e 2) in
          let left : negsuc (a / e) -ℤ negsuc (a / e / 2) ≡ negsuc (b / e / 2) = omega (arith, ints, more) in
          left ∙ ap negsuc (sym middle) ∙ sym right
    ]

-- a floor fits where the number does
pub floor_fits : (z : ℤ) (d : ℕ) → FitsSigned w128 z → FitsSigned w128 (floor_of z d)
floor_fits z d h = record { sfits = omega (arith, mag_shr z d, h.sfits) }

-- and so does what is left of a number without its half
pub half_up_fits : (z : ℤ) → FitsSigned w128 z → FitsSigned w128 (z -ℤ floor_of z 2)
half_up_fits (pos a) h = omega (arith, ints)
half_up_fits (negsuc a) h = omega (arith, ints)

-- a power of two from the one below it
pub twice_pow : (k : ℕ) → 0 < k → 2 * 2 ^ (k - 1) ≡ 2 ^ k
twice_pow zero h = absurd (omega arith)
twice_pow (suc k) h = let e : suc k - 1 ≡ k = omega arith in rw e (sym (pow-succ' 2 k))

-- ---- by the quotient rounded down and the rest
-- the rest of a division
pub quotient_rest : (z : ℤ) (d : ℕ) → 0 < d → z ≡ floor_of z d *ℤ pos d +ℤ int_rem_euclid z (pos d)
quotient_rest (pos a) d h = omega (arith, ints)
quotient_rest (negsuc a) d h = omega (arith, ints)

-- a rest below half of the divisor
pub nearest_down : (z q r : ℤ) (d : ℕ) → 0 < d → z ≡ q *ℤ pos d +ℤ r → pos 0 ≤ℤ r → r <ℤ (pos d -ℤ r) → q ≡ round_of z d
nearest_down z q r d p e h k = floor_unique (pos 2 *ℤ z +ℤ pos d) (2 * d) q (omega arith) (record {
  least = least z q r (pos d) (pos (2 * d)) refl e h (omega (arith, ints));
  greatest = greatest z q r (pos d) (pos (2 * d)) refl e k;
})
  where
    least : (z q r e f : ℤ) → f ≡ pos 2 *ℤ e → z ≡ q *ℤ e +ℤ r → pos 0 ≤ℤ r → pos 0 ≤ℤ e → (q *ℤ f) ≤ℤ (pos 2 *ℤ z +ℤ e)
    least z q r e f g i h k = rw (g, i) (le_by (add_nonneg_z (add_nonneg_z h h) k) (by_ring (q ∷ r ∷ e ∷ []) (search quotes depth 60 fits 20000) refl))

    greatest : (z q r e f : ℤ) → f ≡ pos 2 *ℤ e → z ≡ q *ℤ e +ℤ r → r <ℤ (e -ℤ r) → (pos 2 *ℤ z +ℤ e) <ℤ ((q +ℤ pos 1) *ℤ f)
    greatest z q r e f g i k = rw (g, i) (lt_by k (by_ring (q ∷ r ∷ e ∷ []) (search quotes depth 60 fits 20000) refl))

-- and one that is not below it
pub nearest_up : (z q r : ℤ) (d : ℕ) → 0 < d → z ≡ q *ℤ pos d +ℤ r → r <ℤ pos d → (pos d -ℤ r) ≤ℤ r → q +ℤ pos 1 ≡ round_of z d
nearest_up z q r d p e h k = floor_unique (pos 2 *ℤ z +ℤ pos d) (2 * d) (q +ℤ pos 1) (omega arith) (record {
  least = least z q r (pos d) (pos (2 * d)) refl e k;
  greatest = greatest z q r (pos d) (pos (2 * d)) refl e h (omega (arith, ints));
})
  where
    least : (z q r e f : ℤ) → f ≡ pos 2 *ℤ e → z ≡ q *ℤ e +ℤ r → (e -ℤ r) ≤ℤ r → ((q +ℤ pos 1) *ℤ f) ≤ℤ (pos 2 *ℤ z +ℤ e)
    least z q r e f g i k = rw (g, i) (le_by k (by_ring (q ∷ r ∷ e ∷ []) (search quotes depth 60 fits 20000) refl))

    greatest : (z q r e f : ℤ) → f ≡ pos 2 *ℤ e → z ≡ q *ℤ e +ℤ r → r <ℤ e → pos 0 <ℤ e → (pos 2 *ℤ z +ℤ e) <ℤ ((q +ℤ pos 1 +ℤ pos 1) *ℤ f)
    greatest z q r e f g i h k = rw (g, i) (lt_by (above r e h k) (by_ring (q ∷ r ∷ e ∷ []) (search quotes depth 60 fits 20000) refl))
      where
        above : (r e : ℤ) → r <ℤ e → pos 0 <ℤ e → (r +ℤ r) <ℤ (e +ℤ e +ℤ e)
        above r e h k = omega (arith, ints)

-- the same at a divisor that is an integer, and its quotient and rest as code has them
pub rounded_down : (z b q r : ℤ) → pos 1 ≤ℤ b → q ≡ floor_of z (unsigned_abs b) → r ≡ int_rem_euclid z b → pos 0 ≤ℤ r → r <ℤ (b -ℤ r) → q ≡ round_of z (unsigned_abs b)
rounded_down z (pos d) q r p e f h k = nearest_down z q r d (omega (arith, ints)) (rw (e, f) (quotient_rest z d (omega (arith, ints)))) h k
rounded_down z (negsuc d) q r p e f h k = absurd p.le

-- and where the rest is not below half of it
pub rounded_up : (z b q r : ℤ) → pos 1 ≤ℤ b → q ≡ floor_of z (unsigned_abs b) → r ≡ int_rem_euclid z b → r <ℤ b → (b -ℤ r) ≤ℤ r → q +ℤ pos 1 ≡ round_of z (unsigned_abs b)
rounded_up z (pos d) q r p e f h k = nearest_up z q r d (omega (arith, ints)) (rw (e, f) (quotient_rest z d (omega (arith, ints)))) h k
rounded_up z (negsuc d) q r p e f h k = absurd p.le
