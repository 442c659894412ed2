-- The numbers of the hessian over any unit, from the products of the cost rows.
use Rattle.std.proofs.Common.{◌≡◌, ℕ, ◌+◌, ◌*◌, ◌^◌, ◌<◌, ◌≤◌, max, ℤ, pos, negsuc, neg_ℤ, ◌+ℤ◌, ◌-ℤ◌, ◌*ℤ◌, ◌≤ℤ◌, unsigned_abs, length, FitsSigned, to_z, arith, ap, ap₂, sym, subst, ◌∙◌, refl}
use Rattle.std.specs.Int.{w128}
use Rattle.std.proofs.lemmas.Int.{ints, unsigned_abs-mul, to_z-of_z, to_z_pos}
use Rattle.std.proofs.Math.Nat.{mul-le-mul, mul-le-mul_left, mul-le-mul_right, div-le_self, one-le-mul}
use Rattle.integer_algebra.specs.Bounds.{absolute}
use Rattle.integer_algebra.proofs.SizeLaws.{amount_term}
use Rattle.integer_algebra.proofs.PowerLaws.{pow-two}
use Rattle.integer_algebra.specs.Division.{ceil_div}
use Rattle.integer_algebra.proofs.DivisionLaws.{ceil_div-le}
use Rattle.frac_scaled.specs.Enclosures.{Enclosure, magnitude, whole_product}
use Rattle.mat_int.specs.Matrix.{Matrix}
use Rattle.mat_int.specs.Enclosures.{enclosure_at}
use Rattle.enclosure.specs.declared.types.Enc.{Enc}
use Rattle.enclosure.specs.Values.{pair}
use Rattle.enclosure.proofs.RoomLaws.{same_pair}
use Rattle.qp_model.specs.declared.design_parts.DesignParts.{DesignParts}
use Rattle.qp_model.specs.problem.Design.{Design, entries}
use Rattle.qp_model.specs.problem.Parts.{design_of, IsDesign}
use Rattle.qp_model.specs.problem.Range.{IsDenominator, IsPositive}
use Rattle.qp_model.specs.form.FineForm.{own_weight, counted_row}
use Rattle.qp_model.specs.form.Quantities.{cost_width, weight_sum}
use Rattle.qp_model.specs.problem.Runs.{counts}
use Rattle.qp_model.proofs.SizeFacts.{some_weight, some_cost}
use Rattle.qp_model.proofs.QuantityLaws.{weights_size}
use Rattle.condensed_form.proofs.Rooms.{read, narrow}
use Rattle.scaled_run.specs.ScaledForm.{product_unit, scaled_costs, scaled_products, scaled_hessian, scaled_linear, scaled_constant}
use Rattle.scaled_run.specs.Lists.{Reaches}
use Rattle.scaled_run.proofs.Rooms.{reaches_more, combination_reaches, divided_reaches}
use Rattle.scaled_condense.specs.Lists.{IsScale}
use Rattle.scaled_condense.specs.Numbers.{AreProducts}
use Rattle.scaled_condense.proofs.RowRooms.{costs_reach, weights_narrow}

-- ---- the product at a place
module _ (m den : ℕ) (p : DesignParts) (mid rad : Matrix) (h : AreProducts m den p mid rad) where
  pub product_at : (i j : ℕ) → i < p.stages * p.inputs + p.states + 1 → j < p.stages * p.inputs + p.states + 1 → enclosure_at mid rad i j ≡ scaled_products m den (design_of p) i j
  product_at i j l o = same_pair (h.held.mids.entries i j l o) (h.held.rads.entries i j l o)

  pub product_row : (i : ℕ) → i < p.stages * p.inputs + p.states + 1 → i < length mid.rows
  product_row i l = rw h.held.mids.rows l

  pub product_column : (j : ℕ) → j < p.stages * p.inputs + p.states + 1 → j < mid.cols
  product_column j l = rw h.held.mids.cols l

-- ---- what is made of it
pub hessian_entry : (m den : ℕ) (d : Design) (e r : Enc) (more : ℤ) (i j : ℕ) → pair e ≡ scaled_products m den d i j → more ≡ pos (product_unit m den) *ℤ own_weight d i j →
    r.mid ≡ pos 2 *ℤ (e.mid +ℤ more) → r.rad ≡ pos 2 *ℤ e.rad → pair r ≡ scaled_hessian m den d i j
hessian_entry m den d e r more i j h k o n = same_pair
    (o ∙ ap₂ (λ (x y : ℤ). pos 2 *ℤ (x +ℤ y)) (ap (λ (z : Enclosure). z.mid) h) k)
    (n ∙ ap (λ (z : Enclosure). pos 2 *ℤ z.rad) h ∙ ap (λ (z : ℤ). pos 2 *ℤ z) (sym (plus_none (scaled_products m den d i j).rad)))
  where
    plus_none : (z : ℤ) → z +ℤ pos 0 ≡ z
    plus_none z = omega (arith, ints)

pub linear_entry : (m den : ℕ) (d : Design) (e r : Enc) (j i : ℕ) → pair e ≡ scaled_products m den d j (entries d + i) → r.mid ≡ pos 2 *ℤ (e.mid +ℤ pos 0) → r.rad ≡ pos 2 *ℤ e.rad → pair r ≡ scaled_linear m den d j i
linear_entry m den d e r j i h o n = same_pair
    (o ∙ ap (λ (z : ℤ). pos 2 *ℤ z) (plus_none e.mid ∙ ap (λ (z : Enclosure). z.mid) h)) (n ∙ ap (λ (z : Enclosure). pos 2 *ℤ z.rad) h)
  where
    plus_none : (z : ℤ) → z +ℤ pos 0 ≡ z
    plus_none z = omega (arith, ints)

pub constant_entry : (m den : ℕ) (d : Design) (e r : Enc) (x n : ℤ) (j : ℕ) → pair e ≡ scaled_products m den d j (entries d + d.states) → r.mid ≡ pos 2 *ℤ (e.mid +ℤ pos 0) → r.rad ≡ pos 2 *ℤ e.rad →
    x ≡ neg_ℤ r.mid → n ≡ r.rad → ◌≡◌ {A = Enclosure} (record { mid = x; rad = n }) (scaled_constant m den d j)
constant_entry m den d e r x n j h f g a b = same_pair
    (a ∙ ap neg_ℤ f ∙ turned e.mid ∙ ap (λ (z : Enclosure). negsuc 1 *ℤ z.mid) h) (b ∙ g ∙ ap (λ (z : Enclosure). pos 2 *ℤ z.rad) h)
  where
    turned : (z : ℤ) → neg_ℤ (pos 2 *ℤ (z +ℤ pos 0)) ≡ negsuc 1 *ℤ z
    turned z = omega (arith, ints)

-- ---- how far the products reach
pair_reaches : (a b : Enclosure) (m n : ℕ) → Reaches a m → Reaches b n → Reaches (whole_product a b) (m * n)
pair_reaches a b m n h k = by_radii a.mid b.mid a.rad b.rad h.radius k.radius h.within k.within
  where
    naturals : (x y r s : ℕ) → pos (x + r) ≤ℤ pos m → pos (y + s) ≤ℤ pos n → x * y + (x * s + r * y + r * s) ≤ m * n
    naturals x y r s h k = last (under h) (under k)
      where
        under : {a b : ℕ} → pos a ≤ℤ pos b → a ≤ b
        under h = omega (arith, ints, h)

        last : x + r ≤ m → y + s ≤ n → x * y + (x * s + r * y + r * s) ≤ m * n
        last h k = omega (arith, mul-le-mul_left (y + s) h, mul-le-mul_left m k)

    up : {a b : ℕ} → a ≤ b → pos a ≤ℤ pos b
    up h = omega (arith, ints, h)

    by_radii : (x y r s : ℤ) → pos 0 ≤ℤ r → pos 0 ≤ℤ s → (absolute x +ℤ r) ≤ℤ pos m → (absolute y +ℤ s) ≤ℤ pos n →
        Reaches (record { mid = x *ℤ y; rad = absolute x *ℤ s +ℤ r *ℤ absolute y +ℤ r *ℤ s }) (m * n)
    by_radii x y (pos r) (pos s) h k l o = record { radius = omega (arith, ints); within = rw (unsigned_abs-mul x y) (up (naturals (unsigned_abs x) (unsigned_abs y) r s l o)) }
    by_radii x y (negsuc r) s h k l o = absurd h.le
    by_radii x y (pos r) (negsuc s) h k l o = absurd k.le

pub products_reach : (p : DesignParts) (m den reach : ℕ) → IsScale p m reach → 1 ≤ den → (j l : ℕ) →
    Reaches (scaled_products m den (design_of p) j l) (ceil_div (weight_sum (design_of p) * (cost_width (design_of p) * reach) ^ 2) den + 3)
products_reach p m den reach h some j l =
    divided_reaches _ den _ some (reaches_more (combination_reaches (counts (design_of p)) (λ c. (counted_row (design_of p) c).weight)
    (λ c. whole_product (scaled_costs m (design_of p) c j) (scaled_costs m (design_of p) c l)) (cost_width (design_of p) * reach * (cost_width (design_of p) * reach))
    (λ c o. pair_reaches (scaled_costs m (design_of p) c j) (scaled_costs m (design_of p) c l) _ _ (costs_reach p m reach h c j o) (costs_reach p m reach h c l o)))
    (rw (pow-two (cost_width (design_of p) * reach)) (scaled _ _ (cost_width (design_of p) * reach * (cost_width (design_of p) * reach)) (weights_narrow (design_of p)))))
  where
    scaled : (a b r : ℕ) → a ≤ b → a * r ≤ b * r
    scaled a b r h = omega (arith, mul-le-mul_left r h)

pub product_near : (m den : ℕ) (p : DesignParts) (mid rad : Matrix) → AreProducts m den p mid rad → (e : Enc) (i j : ℕ) → i < p.stages * p.inputs + p.states + 1 → j < p.stages * p.inputs + p.states + 1 →
    pair e ≡ enclosure_at mid rad i j → unsigned_abs e.mid + unsigned_abs e.rad ≤ 2 ^ 124 + 3
product_near m den p mid rad h e i j l o is = last e.mid e.rad e.nonnegative
    (subst (λ (x : Enclosure). magnitude x ≤ℤ pos (ceil_div (weight_sum (design_of p) * (cost_width (design_of p) * h.reach) ^ 2) den + 3))
    (sym (is ∙ product_at m den p mid rad h i j l o)) (products_reach p m den h.reach h.scale h.some i j).within)
    (ceil_div-le (weight_sum (design_of p) * (cost_width (design_of p) * h.reach) ^ 2) den (2 ^ 124) h.some (room (weight_sum (design_of p) * (cost_width (design_of p) * h.reach) ^ 2) den h.area h.some))
  where
    room : (n den : ℕ) → 4 * n ≤ 2 ^ 126 → 1 ≤ den → n ≤ den * 2 ^ 124
    room n den h k = omega (arith, h, mul-le-mul_right (2 ^ 124) k)

    last : (x r : ℤ) {n : ℕ} → pos 0 ≤ℤ r → (absolute x +ℤ r) ≤ℤ pos (n + 3) → n ≤ 2 ^ 124 → unsigned_abs x + unsigned_abs r ≤ 2 ^ 124 + 3
    last x r h k l = omega (arith, ints, h, k, l)

-- ---- an input's own cost
pub small_fits : (z : ℤ) → unsigned_abs z ≤ 2 ^ 124 → FitsSigned w128 z
small_fits z h = omega (arith, ints)

-- the square of the unit is within what the rows reach
unit_square : (w cw m reach : ℕ) → 1 ≤ w → 1 ≤ cw → m ≤ reach → 4 * (w * (cw * reach) ^ 2) ≤ 2 ^ 126 → m * m ≤ 2 ^ 124
unit_square w cw m reach h k l a = last (mul-le-mul l l) (square (grown cw reach k)) (weighed (cw * reach * (cw * reach)) h) (rw (pow-two (cw * reach)) at a)
  where
    grown : (c r : ℕ) → 1 ≤ c → r ≤ c * r
    grown c r h = omega (arith, mul-le-mul_right r h)

    square : {a b : ℕ} → a ≤ b → a * a ≤ b * b
    square h = mul-le-mul h h

    weighed : (n : ℕ) → 1 ≤ w → n ≤ w * n
    weighed n h = omega (arith, mul-le-mul_right n h)

    last : {a b c d : ℕ} → a ≤ b → b ≤ c → c ≤ d → 4 * d ≤ 2 ^ 126 → a ≤ 2 ^ 124
    last h k l o = omega (arith, h, k, l, o)

-- an input's weight is one of all weights
weight_le : (p : DesignParts) → IsDesign p → (l : ℕ) → l < p.inputs → unsigned_abs ((design_of p).input_weight l) ≤ weight_sum (design_of p)
weight_le p h l o = last (design_of p).cost_denominator _ p.stages _ _ (amount_term l p.inputs (λ i. unsigned_abs ((design_of p).input_weight i)) o) h.stages.0 (weights_size (design_of p))
  where
    last : (a b n s t : ℕ) {x : ℕ} → x ≤ s → 1 ≤ n → a + b + n * s ≤ t → x ≤ t
    last a b n s t h k l = omega (arith, h, l, mul-le-mul_right s k)

module _ (m den : ℕ) (p : DesignParts) (mid rad : Matrix) (h : AreProducts m den p mid rad) where
  pub over_square : m * m ≤ 2 ^ 124
  over_square = unit_square (weight_sum (design_of p)) (cost_width (design_of p)) m h.reach (some_weight p h.scale.design) (some_cost p h.scale.design) h.scale.covers h.area

  -- an own cost
  pub own_room : (l : ℕ) → l < p.inputs → product_unit m den * (unsigned_abs ((design_of p).input_weight l) * unsigned_abs p.row_den ^ 2) ≤ 2 ^ 124
  own_room l o = last (product_unit m den) (m * m) _ _ _ _ (div-le_self (m * m) den) (mul-le-mul h.scale.covers h.scale.covers)
      (mul-le-mul (weight_le p h.scale.design l o) (square (row_le (unsigned_abs p.row_den) _))) h.area
    where
      row_le : (a b : ℕ) → a ≤ max a b
      row_le a b = omega arith

      square : {a b : ℕ} → a ≤ b → a ^ 2 ≤ b * b
      square {a} h = rw (pow-two a) (mul-le-mul h h)

      turned : (w c r : ℕ) → r * r * (w * (c * c)) ≡ w * (c * r) ^ 2
      turned w c r = rw (pow-two (c * r)) (omega arith)

      last : (u s w c x r : ℕ) → u ≤ s → s ≤ r * r → x ≤ w * (c * c) → 4 * (w * (c * r) ^ 2) ≤ 2 ^ 126 → u * x ≤ 2 ^ 124
      last u s w c x r i j k a = close (mul-le-mul (chain i j) k) (turned w c r) a
        where
          chain : {a b c : ℕ} → a ≤ b → b ≤ c → a ≤ c
          chain h k = omega (arith, h, k)

          close : {a b c : ℕ} → a ≤ b → b ≡ c → 4 * c ≤ 2 ^ 126 → a ≤ 2 ^ 124
          close h e k = omega (arith, h, e, k)

-- ---- a weight, brought over what the condensed cost is over
module _ (scale : ℕ) (w r : ℤ) (fw : FitsSigned w128 w) (fr : FitsSigned w128 r) (hw : IsPositive w) (hr : IsDenominator r) (room : scale * (unsigned_abs w * unsigned_abs r ^ 2) ≤ 2 ^ 124) where
  square_small : unsigned_abs (r *ℤ r) ≤ 2 ^ 40
  square_small = rw (unsigned_abs-mul r r) (squared (unsigned_abs r) (omega (arith, ints, hr.low, hr.high)))
    where
      squared : (a : ℕ) → a ≤ 2 ^ 20 → a * a ≤ 2 ^ 40
      squared a h = omega (arith, mul-le-mul_left a h)

  own_small : unsigned_abs (w *ℤ (r *ℤ r)) ≤ 2 ^ 71
  own_small = rw (unsigned_abs-mul w (r *ℤ r)) (both (unsigned_abs w) (unsigned_abs (r *ℤ r)) (omega (arith, ints, hw.low, hw.high)) square_small)
    where
      both : (a b : ℕ) → a ≤ 2 ^ 31 → b ≤ 2 ^ 40 → a * b ≤ 2 ^ 71
      both a b h k = omega (arith, mul-le-mul_left b h, k)

  far : {n : ℕ} → n ≤ 2 ^ 71 → n ≤ 2 ^ 126
  far h = omega (arith, h)

  near_far : {n : ℕ} → n ≤ 2 ^ 40 → n ≤ 2 ^ 126
  near_far h = omega (arith, h)

  own_read : read w *ℤ read (read r *ℤ read r) ≡ w *ℤ (r *ℤ r)
  own_read = rw (to_z-of_z w128 r fr, to_z-of_z w128 w fw, to_z-of_z w128 (r *ℤ r) (narrow (r *ℤ r) (near_far square_small))) refl

  pub own_fits : FitsSigned w128 (read w *ℤ read (read r *ℤ read r))
  own_fits = rw own_read (narrow (w *ℤ (r *ℤ r)) (far own_small))

  scale_small : scale ≤ 2 ^ 124
  scale_small = last (one-le-mul (some w hw.low) (rw (pow-two (unsigned_abs r)) (one-le-mul (some r hr.low) (some r hr.low)))) room
    where
      some : (z : ℤ) → pos 1 ≤ℤ z → 1 ≤ unsigned_abs z
      some z h = omega (arith, ints, h)

      last : {n : ℕ} → 1 ≤ n → scale * n ≤ 2 ^ 124 → scale ≤ 2 ^ 124
      last h k = omega (arith, k, mul-le-mul_left scale h)

  pub scale_fits : FitsSigned w128 (pos scale)
  scale_fits = small_fits (pos scale) scale_small

  scale_is : to_z w128 scale ≡ pos scale
  scale_is = to_z_pos w128 scale (under scale_small)
    where
      under : {n : ℕ} → n ≤ 2 ^ 124 → n < 2 ^ 127
      under h = omega (arith, h)

  pub brought_is : to_z w128 scale *ℤ read (read w *ℤ read (read r *ℤ read r)) ≡ pos scale *ℤ (w *ℤ (r *ℤ r))
  brought_is = rw (to_z-of_z w128 _ own_fits, own_read, scale_is) refl

  brought_size : unsigned_abs (pos scale *ℤ (w *ℤ (r *ℤ r))) ≤ 2 ^ 124
  brought_size = rw (unsigned_abs-mul (pos scale) (w *ℤ (r *ℤ r)), unsigned_abs-mul w (r *ℤ r), unsigned_abs-mul r r) (rw (pow-two (unsigned_abs r)) at room)

  pub brought_fits : FitsSigned w128 (to_z w128 scale *ℤ read (read w *ℤ read (read r *ℤ read r)))
  brought_fits = rw brought_is (small_fits _ brought_size)

  pub brought_value : read (to_z w128 scale *ℤ read (read w *ℤ read (read r *ℤ read r))) ≡ pos scale *ℤ (w *ℤ pos (unsigned_abs r ^ 2))
  brought_value = to_z-of_z w128 _ brought_fits ∙ brought_is ∙ ap (λ (z : ℤ). pos scale *ℤ (w *ℤ z)) (square r hr.low ∙ ap pos (sym (pow-two (unsigned_abs r))))
    where
      square : (r : ℤ) → pos 1 ≤ℤ r → r *ℤ r ≡ pos (unsigned_abs r * unsigned_abs r)
      square (pos a) h = refl
      square (negsuc a) h = absurd h.le

  pub brought_small : unsigned_abs (read (to_z w128 scale *ℤ read (read w *ℤ read (read r *ℤ read r)))) ≤ 2 ^ 124
  brought_small = rw (to_z-of_z w128 _ brought_fits, brought_is) brought_size

-- ---- a negated midpoint
module _ (z m : ℤ) (r : ℕ) (f : FitsSigned w128 z) (e : z ≡ pos 2 *ℤ (m +ℤ pos 0)) (h : unsigned_abs m + r ≤ 2 ^ 124 + 3) where
  plain_negated : FitsSigned w128 (pos 0 -ℤ z)
  plain_negated = omega (arith, ints, e)

  pub negated_fits : FitsSigned w128 (pos 0 -ℤ read z)
  negated_fits = rw (to_z-of_z w128 z f) plain_negated

  pub negated_is : read (pos 0 -ℤ read z) ≡ neg_ℤ z
  negated_is = rw (to_z-of_z w128 z f) (to_z-of_z w128 _ plain_negated ∙ less z)
    where
      less : (z : ℤ) → pos 0 -ℤ z ≡ neg_ℤ z
      less z = omega (arith, ints)
