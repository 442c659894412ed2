-- How much the form bends a plan up at least, and that it fits.
use Rattle.std.proofs.Common.{◌≡◌, ℕ, ◌*◌, ◌^◌, ◌≤◌, max, [], ◌∷◌, ℤ, pos, ◌-ℤ◌, ◌*ℤ◌, ◌≤ℤ◌, ◌<ℤ◌, unsigned_abs, FitsSigned, to_z, arith, ap, ◌∙◌, refl}
use Rattle.std.specs.Int.{w128, int_min}
use Rattle.std.proofs.lemmas.Int.{ints, clamps, unsigned_abs-mul, to_z-of_z}
use Rattle.std.proofs.Math.Nat.{mul-le-mul_left}
use Rattle.integer_algebra.proofs.Quoting.{by_ring, quotes}
use Rattle.qp_model.specs.declared.design_parts.DesignParts.{DesignParts}
use Rattle.qp_model.specs.problem.Parts.{design_of, IsDesign}
use Rattle.qp_model.specs.problem.Range.{IsDenominator, IsPositive}
use Rattle.qp_model.specs.form.Quantities.{input_floor}
use Rattle.qp_model.specs.form.FineForm.{hessian_radius}
use Rattle.qp_model.specs.form.FineSizes.{fine_hessian_size}
use Rattle.condensed_form.specs.Form.{IsLeastInput}
use Rattle.condensed_form.proofs.Rooms.{read, narrow}
use Rattle.condensed_form.proofs.DenominatorFacts.{natural, denominator_fits, least_is}
use Rattle.condensed_form.proofs.HeldLaws.{least_equal}
use Rattle.scaled_condense.specs.Numbers.{fine_cost_total}
use Rattle.scaled_condense.proofs.FormSizes.{own_within}
use Rattle.scaled_condense.proofs.FineFacts.{weighed_room}

-- ---- the quantity
pub total_room : (p : DesignParts) → fine_hessian_size (design_of p) ≤ 2 ^ 126 → fine_cost_total (design_of p) ≤ 2 ^ 126
total_room p h = left _ _ h
  where
    left : (a b : ℕ) → max a b ≤ 2 ^ 126 → a ≤ 2 ^ 126
    left a b h = omega (arith, h)

pub radius_room : (p : DesignParts) → fine_hessian_size (design_of p) ≤ 2 ^ 126 → hessian_radius (design_of p) ≤ 2 ^ 40
radius_room p h = right _ _ h
  where
    right : (a b : ℕ) → max a (2 ^ 86 * b) ≤ 2 ^ 126 → b ≤ 2 ^ 40
    right a b h = omega (arith, h)

-- ---- plain numbers: the limits' denominator times what the hessian bends up by
module _ (l y : ℤ) (hl : IsDenominator l) (fy : FitsSigned w128 y) (hy : unsigned_abs y ≤ 2 ^ 88) where
  floor_small : unsigned_abs (l *ℤ y) ≤ 2 ^ 108
  floor_small = rw (unsigned_abs-mul l y) (both (unsigned_abs l) (unsigned_abs y) (omega (arith, ints, hl.low, hl.high)) hy)
    where
      both : (x y : ℕ) → x ≤ 2 ^ 20 → y ≤ 2 ^ 88 → x * y ≤ 2 ^ 108
      both x y h k = omega (arith, mul-le-mul_left y h, k)

  product_read : read l *ℤ read y ≡ l *ℤ y
  product_read = rw (to_z-of_z w128 l (denominator_fits l hl), to_z-of_z w128 y fy) refl

  pub floor_fits : FitsSigned w128 (read l *ℤ read y)
  floor_fits = rw product_read (narrow _ (more floor_small))
    where
      more : {n : ℕ} → n ≤ 2 ^ 108 → n ≤ 2 ^ 126
      more h = omega (arith, h)

  -- the formula's value
  pub floor_value : (b w : ℤ) (n r m t : ℕ) → l ≡ pos n → y ≡ pos 2 *ℤ b -ℤ pos t → b ≡ pos (2 ^ 40) *ℤ (w *ℤ pos r) → w ≡ pos m →
      read (read l *ℤ read y) ≡ int_min (pos (2 * n * r * 2 ^ 40 * m) -ℤ pos (n * t)) (pos (2 ^ 126))
  floor_value b w n r m t el ey eb ew = to_z-of_z w128 _ floor_fits ∙ product_read ∙ least formula floor_small
    where
      turn : (n r k m t : ℤ) → n *ℤ (pos 2 *ℤ (k *ℤ (m *ℤ r)) -ℤ t) ≡ pos 2 *ℤ n *ℤ r *ℤ k *ℤ m -ℤ n *ℤ t
      turn n r k m t = by_ring (n ∷ r ∷ k ∷ m ∷ t ∷ []) (search quotes depth 60 fits 20000) refl

      formula : l *ℤ y ≡ pos (2 * n * r * 2 ^ 40 * m) -ℤ pos (n * t)
      formula = rw (el, ey, eb, ew) (turn (pos n) (pos r) (pos (2 ^ 40)) (pos m) (pos t))

      least : {x y : ℤ} → x ≡ y → unsigned_abs x ≤ 2 ^ 108 → x ≡ int_min y (pos (2 ^ 126))
      least {x} {y} e h = omega (arith, ints, clamps, e, h)

-- ---- of a design
module _ (p : DesignParts) (h : IsDesign p) (w : ℤ) (is : IsLeastInput (design_of p) w) (room : fine_hessian_size (design_of p) ≤ 2 ^ 126) where
  pub bend_small : (b : ℤ) → b ≡ pos (2 ^ 40) *ℤ (w *ℤ pos (unsigned_abs p.row_den ^ 2)) → unsigned_abs b ≤ 2 ^ 86
  bend_small b e = rw (e, unsigned_abs-mul (pos (2 ^ 40)) (w *ℤ pos (unsigned_abs p.row_den ^ 2)), unsigned_abs-mul w (pos (unsigned_abs p.row_den ^ 2)), is.met.1.1)
      (last (own_within p h is.met.0 is.met.1.0) (weighed_room p h (total_room p room)))
    where
      last : {a x : ℕ} → 2 ^ 40 * a ≤ x → 2 * x ≤ 2 ^ 126 → a ≤ 2 ^ 86
      last h k = omega (arith, h, k)

  pub least_natural : w ≡ pos (input_floor (design_of p))
  least_natural = natural w (least_is p h w is).low ∙ ap pos (least_equal p w h is)

-- ---- what the form says of its numbers
pub denominator_weight : (z : ℤ) → IsDenominator z → IsPositive (read z)
denominator_weight z h = rw (to_z-of_z w128 z (denominator_fits z h)) (record { low = h.low; high = more h.high })
  where
    more : z ≤ℤ pos (2 ^ 20) → z <ℤ pos (2 ^ 31)
    more k = omega (arith, ints, k)

-- the denominators
pub shifted_fits : (z : ℤ) → IsDenominator z → FitsSigned w128 (read z *ℤ pos (2 ^ 40))
shifted_fits z h = rw (to_z-of_z w128 z (denominator_fits z h)) (narrow _ (small z h.low h.high))
  where
    small : (z : ℤ) → pos 1 ≤ℤ z → z ≤ℤ pos (2 ^ 20) → unsigned_abs (z *ℤ pos (2 ^ 40)) ≤ 2 ^ 126
    small z l m = omega (arith, ints, l, m)

pub hess_den_is : (p : DesignParts) → IsDesign p → (z : ℤ) → FitsSigned w128 z → z ≡ pos (2 ^ 40) *ℤ (read p.cost_den *ℤ pos (unsigned_abs p.row_den ^ 2)) →
    read z ≡ pos (unsigned_abs p.cost_den * unsigned_abs p.row_den ^ 2 * 2 ^ 40)
hess_den_is p h z f e = to_z-of_z w128 z f ∙ e ∙ ap (λ (y : ℤ). pos (2 ^ 40) *ℤ (y *ℤ pos (unsigned_abs p.row_den ^ 2)))
    (to_z-of_z w128 p.cost_den (denominator_fits p.cost_den h.cost_den) ∙ natural p.cost_den h.cost_den.low) ∙ ap pos (turn (2 ^ 40) (unsigned_abs p.cost_den) (unsigned_abs p.row_den ^ 2))
  where
    turn : (k w r : ℕ) → k * (w * r) ≡ w * r * k
    turn k w r = omega arith

pub row_den_is : (p : DesignParts) → IsDesign p → (z : ℤ) → FitsSigned w128 z → z ≡ read p.limit_den *ℤ pos (2 ^ 40) → read z ≡ pos (unsigned_abs p.limit_den * 2 ^ 40)
row_den_is p h z f e = to_z-of_z w128 z f ∙ e ∙ ap (λ (y : ℤ). y *ℤ pos (2 ^ 40))
    (to_z-of_z w128 p.limit_den (denominator_fits p.limit_den h.limit_den) ∙ natural p.limit_den h.limit_den.low)

pub den_is : (z : ℤ) → IsDenominator z → read z ≡ pos (unsigned_abs z)
den_is z h = to_z-of_z w128 z (denominator_fits z h) ∙ natural z h.low

-- a quantity
pub size_fits : (n m : ℕ) → n ≡ m → m ≤ 2 ^ 126 → FitsSigned w128 (pos n)
size_fits n m e h = rw e (bits m h)
  where
    bits : (n : ℕ) → n ≤ 2 ^ 126 → FitsSigned w128 (pos n)
    bits n h = omega (arith, ints, h)

pub size_is : (n m : ℕ) → n ≡ m → m ≤ 2 ^ 126 → to_z w128 n ≡ pos m
size_is n m e h = rw e (bits m h)
  where
    bits : (n : ℕ) → n ≤ 2 ^ 126 → to_z w128 n ≡ pos n
    bits n h = omega (arith, ints, h)
