-- Matrices that are held with radii.
use Rattle.std.proofs.Common.{◌≡◌, inl, inr, ◌≢◌, ℕ, ◌+◌, ◌*◌, ◌<◌, ◌≤◌, ◌^◌, [], ◌∷◌, ℤ, pos, ◌+ℤ◌, ◌-ℤ◌, ◌*ℤ◌, ◌≤ℤ◌, ◌<ℤ◌, unsigned_abs, nat_eq, Bool, true, false, if◌then◌else◌, arith, ap, sym, ◌∙◌, refl}
use Rattle.std.proofs.lemmas.Int.{ints, unsigned_abs-mul}
use Rattle.std.proofs.lemmas.Bool.Decides.{eqb_tells}
use Rattle.std.proofs.Math.Nat.{mul-le-mul_left}
use Rattle.integer_algebra.specs.Bounds.{IsWithin, absolute}
use Rattle.integer_algebra.specs.Matrices.{off_diagonal_sum}
use Rattle.integer_algebra.specs.Sizes.{amount, size}
use Rattle.integer_algebra.specs.Sums.{square}
use Rattle.integer_algebra.proofs.DominanceLaws.{others_and_own}
use Rattle.integer_algebra.proofs.OrderLaws.{cancel-le_z, mul-le-mul_left_z}
use Rattle.integer_algebra.proofs.PowerLaws.{pow-two}
use Rattle.integer_algebra.proofs.Quoting.{by_ring, quotes}
use Rattle.integer_algebra.proofs.SumLaws.{total_same}
use Rattle.integer_algebra.proofs.VectorLaws.{dot_same, quadratic_scale}
use Rattle.hessian_check.specs.Dominance.{IsSymmetric, form}
use Rattle.hessian_check.specs.Curvature.{Curved, HeldMatrices, IsHeld, held_exactly, lowered, raised_diagonal, difference, weighted_products, exact_matrix, exponent_matrix, radius_of, BoundsRows}
use Rattle.hessian_check.proofs.FormLaws.{form_sub, dominance_law}
use Rattle.integer_algebra.proofs.AmountLaws.{amount_mono, amount_scale}
use Rattle.hessian_check.proofs.CurvatureLaws.{matrix_law, gram_turned, exact_symmetric}

-- ---- a matrix that lies within radii of another
other_test : (i j : ℕ) → i ≢ j → nat_eq i j ≡ false
other_test i j h = elim (eqb_tells i j) [ inl e ↦ absurd (h e.1) | inr e ↦ e.0 ]

pub lowered_turned : (n : ℕ) (m : ℕ → ℕ → ℤ) (by : ℕ → ℕ) → IsSymmetric n m → IsSymmetric n (lowered m by)
lowered_turned n m by h i j k l = elim (eqb_tells j i) [
  | inl e ↦ rw e.1 refl
  | inr e ↦ rw (e.0, other_test i j (λ f. e.1 (sym f))) (ap (λ (z : ℤ). z -ℤ pos 0) (h i j k l))
]

pub raised_turned : (n : ℕ) (m : ℕ → ℕ → ℤ) (by : ℕ → ℕ) → IsSymmetric n m → IsSymmetric n (raised_diagonal m by)
raised_turned n m by h i j k l = elim (eqb_tells j i) [
  | inl e ↦ rw e.1 refl
  | inr e ↦ rw (e.0, other_test i j (λ f. e.1 (sym f))) (ap (λ (z : ℤ). z +ℤ pos 0) (h i j k l))
]

-- what is left of it over the other, lowered by the radii, is dominant
pub within_law : (n : ℕ) (a m : ℕ → ℕ → ℤ) (radius : ℕ → ℕ → ℕ) → IsSymmetric n a → IsSymmetric n m →
    ((i j : ℕ) → i < n → j < n → unsigned_abs (a i j -ℤ m i j) ≤ radius i j) → (d : ℕ → ℤ) → form n (lowered m (λ i. amount n (radius i))) d ≤ℤ form n a d
within_law n a m radius s t h d = above (dominance_law n gap turned dominant d) (form_sub n a (lowered m sums) d)
  where
    sums : ℕ → ℕ
    sums i = amount n (radius i)

    gap : ℕ → ℕ → ℤ
    gap i j = a i j -ℤ lowered m sums i j

    error : ℕ → ℕ → ℤ
    error i j = a i j -ℤ m i j

    above : {g x y : ℤ} → pos 0 ≤ℤ g → g ≡ x -ℤ y → y ≤ℤ x
    above {g} {x} {y} h e = omega (arith, ints, h, e)

    turned : IsSymmetric n gap
    turned i j k l = both _ _ _ _ (s i j k l) (lowered_turned n m sums t i j k l)
      where
        both : (a b c e : ℤ) → a ≡ b → c ≡ e → a -ℤ c ≡ b -ℤ e
        both a b c e p q = omega (arith, ints, p, q)

    beside : (i j : ℕ) → (if nat_eq j i then pos 0 else absolute (gap i j)) ≡ (if nat_eq j i then pos 0 else absolute (error i j))
    beside i j = elim (eqb_tells j i) [
      | inl e ↦ rw e.0 refl
      | inr e ↦ rw e.0 (ap absolute (plain (a i j) (m i j)))
    ]
      where
        plain : (x y : ℤ) → x -ℤ (y -ℤ pos 0) ≡ x -ℤ y
        plain x y = omega (arith, ints)

    own : (i : ℕ) → gap i i ≡ error i i +ℤ pos (sums i)
    own i = elim (eqb_tells i i) [
      | inl e ↦ rw e.0 (more (a i i) (m i i) (pos (sums i)))
      | inr e ↦ absurd (e.1 refl)
    ]
      where
        more : (x y z : ℤ) → x -ℤ (y -ℤ z) ≡ x -ℤ y +ℤ z
        more x y z = omega (arith, ints)

    dominant : (i : ℕ) → i < n → off_diagonal_sum n gap i ≤ℤ gap i i
    dominant i l = closed (off_diagonal_sum n error i) (error i i) (size n (error i)) (sums i)
        (total_same n _ _ (λ j o. beside i j)) (own i) (others_and_own n error i l) (amount_mono n _ (radius i) (λ j o. h i j l o))
      where
        closed : (f e : ℤ) (x y : ℕ) {g o : ℤ} → g ≡ f → o ≡ e +ℤ pos y → f +ℤ absolute e ≡ pos x → x ≤ y → g ≤ℤ o
        closed f e x y {g} {o} p q r k = omega (arith, ints, p, q, r, k)

-- ---- the matrices of an exponent
module _ (c : Curved) (h : HeldMatrices) (k : IsHeld c h) (s : ℕ) where
  abbrev mid : ℕ → ℕ → ℤ
  mid = difference (square c.limit_den) (c.weight_den *ℤ square c.cost_row_den) h.half h.products s

  mid_turned : IsSymmetric c.entries mid
  mid_turned i j a b = joined (pos (2 ^ s) *ℤ square c.limit_den) (c.weight_den *ℤ square c.cost_row_den) (k.half_turned i j a b) (k.products_turned i j a b)
    where
      joined : (x y : ℤ) {a b e f : ℤ} → a ≡ b → e ≡ f → x *ℤ a -ℤ y *ℤ e ≡ x *ℤ b -ℤ y *ℤ f
      joined x y h k = rw (h, k) refl

  pub held_turned : IsSymmetric c.entries (exponent_matrix c h s)
  held_turned = lowered_turned c.entries mid (λ i. amount c.entries (radius_of c h s i)) mid_turned

  exact_turned : IsSymmetric c.entries (λ i j. pos k.held_scale *ℤ exact_matrix c s i j)
  exact_turned i j a b = ap (λ (z : ℤ). pos k.held_scale *ℤ z) (exact_symmetric c s k.turned i j a b)

  apart : (i j : ℕ) → i < c.entries → j < c.entries → unsigned_abs (pos k.held_scale *ℤ exact_matrix c s i j -ℤ pos k.exact_scale *ℤ mid i j) ≤ k.exact_scale * radius_of c h s i j
  apart i j a b = closed (2 ^ s) c.limit_den c.weight_den c.cost_row_den (pos k.held_scale) (pos k.exact_scale) (c.half i j) (weighted_products c.count c.weight c.row i j) (h.half i j) (h.products i j)
      k.exact_scale (h.half_radius i j) (h.products_radius i j) (size_of (k.half i j a b)) (size_of (k.products i j a b))
    where
      size_of : {b : ℕ} {z : ℤ} → IsWithin (pos b) z → unsigned_abs z ≤ b
      size_of {b} {z} w = omega (arith, ints, w.below, w.above)

      abs-sub_le : (a b : ℤ) → unsigned_abs (a -ℤ b) ≤ unsigned_abs a + unsigned_abs b
      abs-sub_le a b = grind (arith, ints)

      -- the size of a product with a square
      squared : (l : ℤ) → unsigned_abs (square l) ≡ unsigned_abs l ^ 2
      squared l = unsigned_abs-mul l l ∙ sym (pow-two (unsigned_abs l))

      closed : (p : ℕ) (l w r u v x g y z : ℤ) (e a b : ℕ) → unsigned_abs (u *ℤ x -ℤ v *ℤ y) ≤ e * a → unsigned_abs (u *ℤ g -ℤ v *ℤ z) ≤ e * b →
          unsigned_abs (u *ℤ (pos p *ℤ square l *ℤ x -ℤ w *ℤ square r *ℤ g) -ℤ v *ℤ (pos p *ℤ square l *ℤ y -ℤ w *ℤ square r *ℤ z)) ≤
          e * (p * unsigned_abs l ^ 2 * a + unsigned_abs w * unsigned_abs r ^ 2 * b)
      closed p l w r u v x g y z e a b f q = rw (turn (pos p *ℤ square l) (w *ℤ square r) u v x g y z) (
          let one = abs-sub_le (pos p *ℤ square l *ℤ (u *ℤ x -ℤ v *ℤ y)) (w *ℤ square r *ℤ (u *ℤ g -ℤ v *ℤ z)) in
          let two : unsigned_abs (pos p *ℤ square l *ℤ (u *ℤ x -ℤ v *ℤ y)) ≡ p * unsigned_abs l ^ 2 * unsigned_abs (u *ℤ x -ℤ v *ℤ y) =
          unsigned_abs-mul (pos p *ℤ square l) (u *ℤ x -ℤ v *ℤ y) ∙ ap (λ (z : ℕ). z * unsigned_abs (u *ℤ x -ℤ v *ℤ y)) (unsigned_abs-mul (pos p) (square l) ∙ ap (λ (z : ℕ). p * z) (squared l)) in
          let three : unsigned_abs (w *ℤ square r *ℤ (u *ℤ g -ℤ v *ℤ z)) ≡ unsigned_abs w * unsigned_abs r ^ 2 * unsigned_abs (u *ℤ g -ℤ v *ℤ z) =
          unsigned_abs-mul (w *ℤ square r) (u *ℤ g -ℤ v *ℤ z) ∙ ap (λ (t : ℕ). t * unsigned_abs (u *ℤ g -ℤ v *ℤ z)) (unsigned_abs-mul w (square r) ∙ ap (λ (t : ℕ). unsigned_abs w * t) (squared r)) in
          sum _ _ _ (p * unsigned_abs l ^ 2) (unsigned_abs w * unsigned_abs r ^ 2) (unsigned_abs (u *ℤ x -ℤ v *ℤ y)) (unsigned_abs (u *ℤ g -ℤ v *ℤ z)) one two three f q)
        where
          turn : (m o u v x g y z : ℤ) → u *ℤ (m *ℤ x -ℤ o *ℤ g) -ℤ v *ℤ (m *ℤ y -ℤ o *ℤ z) ≡ m *ℤ (u *ℤ x -ℤ v *ℤ y) -ℤ o *ℤ (u *ℤ g -ℤ v *ℤ z)
          turn m o u v x g y z = by_ring (m ∷ o ∷ u ∷ v ∷ x ∷ g ∷ y ∷ z ∷ []) (search quotes depth 60 fits 20000) refl

          sum : (t x y m o f g : ℕ) → t ≤ x + y → x ≡ m * f → y ≡ o * g → f ≤ e * a → g ≤ e * b → t ≤ e * (m * a + o * b)
          sum t x y m o f g h p q k l =
              let i = mul-le-mul_left m k in
              let j = mul-le-mul_left o l in
              omega (arith, h, p, q, i, j)

  -- a factor on both
  scaled : (i j : ℕ) → lowered (λ i j. pos k.exact_scale *ℤ mid i j) (λ i. amount c.entries (λ j. k.exact_scale * radius_of c h s i j)) i j ≡ pos k.exact_scale *ℤ exponent_matrix c h s i j
  scaled i j = rw (amount_scale c.entries k.exact_scale (radius_of c h s i)) (closed (nat_eq j i) k.exact_scale (mid i j) (amount c.entries (radius_of c h s i)))
    where
      closed : (b : Bool) (e : ℕ) (x : ℤ) (y : ℕ) → pos e *ℤ x -ℤ (if b then pos (e * y) else pos 0) ≡ pos e *ℤ (x -ℤ (if b then pos y else pos 0))
      closed true e x y = turn (pos e) x (pos y)
        where
          turn : (e x y : ℤ) → e *ℤ x -ℤ e *ℤ y ≡ e *ℤ (x -ℤ y)
          turn e x y = by_ring (e ∷ x ∷ y ∷ []) (search quotes depth 60 fits 20000) refl
      closed false e x y = turn (pos e) x
        where
          turn : (e x : ℤ) → e *ℤ x -ℤ pos 0 ≡ e *ℤ (x -ℤ pos 0)
          turn e x = by_ring (e ∷ x ∷ []) (search quotes depth 60 fits 20000) refl

  -- the held form is below the exact one
  pub held_form : (d : ℕ → ℤ) → (pos k.exact_scale *ℤ form c.entries (exponent_matrix c h s) d) ≤ℤ (pos k.held_scale *ℤ form c.entries (exact_matrix c s) d)
  held_form d = closed (within_law c.entries (λ i j. pos k.held_scale *ℤ exact_matrix c s i j) (λ i j. pos k.exact_scale *ℤ mid i j) (λ i j. k.exact_scale * radius_of c h s i j)
      exact_turned (λ i j a b. ap (λ (z : ℤ). pos k.exact_scale *ℤ z) (mid_turned i j a b)) apart d)
      (dot_same c.entries d _ _ (λ i l. total_same c.entries _ _ (λ j o. ap (λ (z : ℤ). z *ℤ d j) (scaled i j))) ∙ quadratic_scale c.entries (pos k.exact_scale) (exponent_matrix c h s) d)
      (quadratic_scale c.entries (pos k.held_scale) (exact_matrix c s) d)
    where
      closed : {a b x y : ℤ} → a ≤ℤ b → a ≡ x → b ≡ y → x ≤ℤ y
      closed {a} {b} {x} {y} h e f = omega (arith, ints, h, e, f)

pub held_matrix_law : (c : Curved) (h : HeldMatrices) (s : ℕ) → IsHeld c h → ((d : ℕ → ℤ) → pos 0 ≤ℤ form c.entries (exponent_matrix c h s) d) → BoundsRows c s
held_matrix_law c h s k g = matrix_law c s (λ d. closed (pos k.exact_scale) (pos k.held_scale) (form c.entries (exponent_matrix c h s) d) (form c.entries (exact_matrix c s) d)
    (omega (arith, ints)) (let o = k.some in omega (arith, ints, o)) (held_form c h k s d) (g d))
  where
    closed : (e u x y : ℤ) → pos 0 ≤ℤ e → pos 0 <ℤ u → (e *ℤ x) ≤ℤ (u *ℤ y) → pos 0 ≤ℤ x → pos 0 ≤ℤ y
    closed e u x y he hu l hx = cancel-le_z u (pos 0) y hu (let a = mul-le-mul_left_z e he hx in numbers l a)
      where
        numbers : {a b : ℤ} → a ≤ℤ b → (e *ℤ pos 0) ≤ℤ a → (u *ℤ pos 0) ≤ℤ b
        numbers {a} {b} h k = omega (arith, ints, h, k)

-- ---- the exact matrices
none_apart : (x : ℤ) → IsWithin (pos (1 * 0)) (pos 1 *ℤ x -ℤ pos 1 *ℤ x)
none_apart x = record { below = omega (arith, ints); above = omega (arith, ints) }

pub exact_law : (c : Curved) → IsSymmetric c.entries c.half → IsHeld c (held_exactly c)
exact_law c h = record {
  exact_scale = 1;
  held_scale = 1;
  some = omega arith;
  turned = h;
  half_turned = h;
  products_turned = λ i j k l. gram_turned c.count c.weight c.row i j;
  half = λ i j k l. none_apart (c.half i j);
  products = λ i j k l. none_apart (weighted_products c.count c.weight c.row i j);
}
