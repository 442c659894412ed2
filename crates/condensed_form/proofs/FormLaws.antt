-- The exact numbers of a design as its condensed form.
use Rattle.std.proofs.Common.{◌≡◌, false, ℕ, ◌+◌, ◌*◌, ◌^◌, ◌<◌, ◌≤◌, min, [], ◌∷◌, List, length, ℤ, pos, ◌+ℤ◌, ◌*ℤ◌, ◌≤ℤ◌, ◌<ℤ◌, unsigned_abs, arith, ap, sym, ◌∙◌, refl}
use Rattle.std.proofs.lemmas.Int.{ints, unsigned_abs-mul}
use Rattle.std.proofs.lemmas.List.Elements.{All-from_get_or}
use Rattle.std.proofs.Math.Nat.{mul-le-mul, mul-le-mul_left, pow-le-pow_left, one-le-mul}
use Rattle.integer_algebra.specs.Sums.{total, dot, image, square, at}
use Rattle.integer_algebra.proofs.OrderLaws.{pos_positive, mul_pos_z, le_by, add-le-add_z, mul-le-mul_left_z, mul-le-mul_right_z, cancel-le_z, square_nonneg_z}
use Rattle.integer_algebra.proofs.SumLaws.{total_nonneg}
use Rattle.integer_algebra.proofs.AmountLaws.{amount_most}
use Rattle.integer_algebra.proofs.VectorLaws.{quadratic_scale}
use Rattle.integer_algebra.proofs.PowerLaws.{pow-two, pow_positive, four-pow}
use Rattle.integer_algebra.proofs.Quoting.{by_ring, quotes}
use Rattle.mat_int.specs.Matrix.{Matrix, entry_of}
use Rattle.qp_model.specs.declared.design_parts.DesignParts.{DesignParts}
use Rattle.qp_model.specs.problem.Design.{Design, entries, rows}
use Rattle.qp_model.specs.problem.Parts.{design_of, IsDesign}
use Rattle.qp_model.specs.problem.Sound.{IsSound}
use Rattle.qp_model.specs.machine.Controller.{HasShape}
use Rattle.qp_model.specs.form.Form.{farthest, spread_of, exact_form, HaveSameNumbers}
use Rattle.qp_model.specs.problem.Cost as cost
use Rattle.qp_model.specs.form.Condensed as form
use Rattle.qp_model.specs.form.Condensed.{IsCondensed}
use Rattle.qp_model.specs.form.Curvature.{curvature}
use Rattle.qp_model.specs.form.Convex.{IsConvex}
use Rattle.qp_model.specs.form.Columns.{solve_matrix}
use Rattle.qp_model.specs.problem.Runs.{Agrees, bound_at}
use Rattle.qp_model.specs.form.Quantities.{cost_entry_size, limit_entry_size, hessian_size, rows_size, limit_width}
use Rattle.qp_model.proofs.CurvatureLaws.{hessian_law, curvature_law}
use Rattle.qp_model.proofs.AgreesLaws.{agrees_law}
use Rattle.qp_model.proofs.SizeFacts.{some_entry, some_row}
use Rattle.qp_model.proofs.RowLaws.{plan_number, state_number, bound_number}
use Rattle.qp_model.proofs.FormLaws.{exact_form_law}
use Rattle.qp_model.proofs.QuantityLaws.{state_cost_size, plan_row_size, state_row_size, bound_width, powered_size}
use Rattle.condensed_form.specs.declared.condensed.Condensed.{Condensed}
use Rattle.condensed_form.specs.Form.{form_numbers, held, hessian_row_sum, cost_sum, limit_sum, column_products, HasShapes, IsLeastInput, response_scale, HasDenominators, HasSums, IsFormIn}
use Rattle.condensed_form.specs.Fault.{AreEntrySizes}
use Rattle.condensed_form.specs.Lists.{HoldsMatrix}
use Rattle.condensed_form.specs.Numbers.{AreCostNumbers, AreLimitNumbers, AreNoRadii}
use Rattle.condensed_form.proofs.WeighedFacts.{hessian_is, linear_is, constant_is}
use Rattle.condensed_form.proofs.CostFacts.{square_le, diagonal_small, weighed_small, scaled_target_size, abs-neg}
use Rattle.condensed_form.proofs.DenominatorFacts.{natural, least_is}
use Rattle.condensed_form.proofs.FormSums.{far_hessian, far_linear, far_constant, far_plan, far_state}
use Rattle.condensed_form.proofs.HeldLaws.{least_equal}
use Rattle.condensed_form.proofs.RadiusFacts.{zero_shape, zero_length, no_hessian_radius, no_linear_radius, no_constant_radius, no_plan_radius, no_state_radius, radii_of}

-- ---- shapes
pub shape_of : (m : Matrix) (height width known : ℕ) (f : ℕ → ℕ → ℤ) → HoldsMatrix m height width known f → HasShape m height width
shape_of m height width known f h = record {
  rows = h.long;
  cols = h.wide;
  each = All-from_get_or (λ (row : List ℤ). length row ≡ width) m.rows [] (λ i l. h.regular i (rw (← h.long) l));
}

-- what the radii are: none
abbrev pub HasNoRadii : DesignParts → Condensed → Type 0
HasNoRadii p c = AreNoRadii (entries (design_of p)) p.states (rows (design_of p)) c.hess_rad c.lin_rad c.off_rad.items c.g_rad c.e_rad

shapes : (p : DesignParts) (c : Condensed) → AreCostNumbers (design_of p) c.hess c.lin c.off.items → AreLimitNumbers (design_of p) c.g c.e c.bound.items →
    HasNoRadii p c → HasShapes c (entries (design_of p)) p.states (rows (design_of p))
shapes p c k l r = record {
  hess = shape_of _ _ _ _ _ k.hessian;
  hess_rad = zero_shape _ _ _ r.hessian;
  lin = shape_of _ _ _ _ _ k.linear;
  lin_rad = zero_shape _ _ _ r.linear;
  off = k.constant.long;
  off_rad = zero_length _ _ r.constant;
  g = shape_of _ _ _ _ _ l.plan;
  g_rad = zero_shape _ _ _ r.plan;
  e = shape_of _ _ _ _ _ l.state;
  e_rad = zero_shape _ _ _ r.state;
  bound = l.bound.long;
}

-- ---- the formulas
agrees : (p : DesignParts) (c : Condensed) → IsDesign p → AreCostNumbers (design_of p) c.hess c.lin c.off.items → AreLimitNumbers (design_of p) c.g c.e c.bound.items →
    Agrees (design_of p) (form_numbers c)
agrees p c h k l = record {
  hessian = λ i j a b. k.hessian.is i j a b ∙ sym (hessian_is (design_of p) i j h.inputs.0 a);
  linear = λ j i a b. k.linear.is j i a b ∙ sym (linear_is (design_of p) j i h.inputs.0);
  constant = λ j a. k.constant.is j a ∙ sym (constant_is (design_of p) j h.inputs.0);
  limits = record { plan = l.plan.is; state = l.state.is; bound = l.bound.is };
}

-- ---- sizes
entry_within : (n a x t : ℕ) → 1 ≤ n → n * x ≤ t → x ≤ t
entry_within n a x t h k = omega (arith, mul-le-mul_left x h)

pub cost_room : (p : DesignParts) → IsDesign p → hessian_size (design_of p) ≤ 2 ^ 126 → cost_entry_size (design_of p) ≤ 2 ^ 126
cost_room p h k = entry_within (entries (design_of p) * (entries (design_of p) + p.states + 1)) 0 (cost_entry_size (design_of p)) _ (one-le-mul (some_entry p h) (omega arith)) k

pub limit_room : (p : DesignParts) → IsDesign p → rows_size (design_of p) ≤ 2 ^ 126 → limit_entry_size (design_of p) ≤ 2 ^ 126
limit_room p h k = under (limit_entry_size (design_of p)) (entry_within ((entries (design_of p) + p.states + 1) * rows (design_of p)) 0 (limit_entry_size (design_of p) ^ 2) _ (one-le-mul (grown (entries (design_of p)) p.states) (some_row p h)) k)
  where
    grown : (e n : ℕ) → 1 ≤ e + n + 1
    grown e n = omega arith

    under : (x : ℕ) → x ^ 2 ≤ 2 ^ 126 → x ≤ 2 ^ 126
    under x h = omega (arith, square_le x, h)

-- an exact number, at its farthest
far_at : (z : ℤ) (y : ℤ) (r t : ℕ) → z ≡ y → r ≡ 0 → unsigned_abs y ≤ t → farthest z r ≤ t
far_at z y r t e f h = omega (arith, rw (← e) at h)

small_at : (z : ℤ) (y : ℤ) (t : ℕ) → z ≡ y → unsigned_abs y ≤ t → unsigned_abs z ≤ t
small_at z y t e h = rw e h

-- sums of numbers that are small
summed : (e n w x y z : ℕ) → x ≤ e * (e * w) → y ≤ e * (n * w) → z ≤ e * w → x + y + z ≤ e * (e + n + 1) * w
summed e n w x y z h k l = omega (arith, h, k, l)

squared : (e n m w x y z : ℕ) → x ≤ m * (e * w) → y ≤ m * (n * w) → z ≤ m * w → x + y + z ≤ (e + n + 1) * m * w
squared e n m w x y z h k l = omega (arith, h, k, l)

row_summed : (e n w x : ℕ) → x ≤ e * w → x ≤ 2 * (e * (e + n + 1) * w)
row_summed e n w x h = omega (arith, h, grown e n w)
  where
    grown : (e n w : ℕ) → e * w ≤ e * (e + n + 1) * w
    grown e n w = omega arith

crossed : (e n m w x : ℕ) → x ≤ e * (m * w) → x ≤ (e + n + 1) * m * w
crossed e n m w x h = omega (arith, h)

square_most : (x t : ℕ) → x ≤ t → x ^ 2 ≤ t ^ 2
square_most x t h = pow-le-pow_left {n = x} {m = t} h 2

product_most : (x y t : ℕ) → x ≤ t → y ≤ t → x * y ≤ t ^ 2
product_most x y t h k = rw (pow-two t) (mul-le-mul {n₁ = x} {m₁ = y} {n₂ = t} {m₂ = t} h k)

module _ (d : Design) (c : Condensed) (s : HasShapes c (entries d) d.states (rows d)) where
  module _ (hess : (i j : ℕ) → i < entries d → j < entries d → far_hessian c i j ≤ cost_entry_size d) where
    cost_row_sum : (i : ℕ) → i < entries d → hessian_row_sum (held c) i ≤ 2 * hessian_size d
    cost_row_sum i l = rw s.hess.rows (row_summed (entries d) d.states (cost_entry_size d) _ (amount_most (entries d) _ _ (λ j m. hess i j l m)))

    cost_sums : ((j i : ℕ) → j < entries d → i < d.states → far_linear c j i ≤ cost_entry_size d) →
        ((j : ℕ) → j < entries d → far_constant c j ≤ cost_entry_size d) → cost_sum (held c) ≤ hessian_size d
    cost_sums lin off = rw (s.hess.rows, s.lin.cols) (summed (entries d) d.states (cost_entry_size d) _ _ _
        (amount_most (entries d) _ _ (λ i l. amount_most (entries d) _ _ (λ j m. hess i j l m)))
        (amount_most (entries d) _ _ (λ j l. amount_most d.states _ _ (λ i m. lin j i l m)))
        (amount_most (entries d) _ _ off))

  module _ (g : (i j : ℕ) → i < rows d → j < entries d → far_plan c i j ≤ limit_entry_size d) where
    limit_sums : ((i j : ℕ) → i < rows d → j < d.states → far_state c i j ≤ limit_entry_size d) →
        ((i : ℕ) → i < rows d → unsigned_abs (at c.bound.items i) ≤ limit_entry_size d) → limit_sum (held c) ≤ rows_size d
    limit_sums e bound = rw (s.hess.rows, s.lin.cols, s.g.rows) (squared (entries d) d.states (rows d) (limit_entry_size d ^ 2) _ _ _
        (amount_most (rows d) _ _ (λ i l. amount_most (entries d) _ _ (λ j m. square_most _ _ (g i j l m))))
        (amount_most (rows d) _ _ (λ i l. amount_most d.states _ _ (λ j m. square_most _ _ (e i j l m))))
        (amount_most (rows d) _ _ (λ i l. square_most _ _ (bound i l))))

    products_sum : (j : ℕ) → j < entries d → column_products (held c) j ≤ rows_size d
    products_sum j l = rw (s.hess.rows, s.g.rows) (crossed (entries d) d.states (rows d) (limit_entry_size d ^ 2) _
        (amount_most (entries d) _ _ (λ k m. amount_most (rows d) _ _ (λ i o. product_most _ _ _ (g i j o l) (g i k o m)))))

sizes : (p : DesignParts) (c : Condensed) → IsDesign p → AreEntrySizes (design_of p) c.hess_size c.rows_size → AreCostNumbers (design_of p) c.hess c.lin c.off.items →
    AreLimitNumbers (design_of p) c.g c.e c.bound.items → HasNoRadii p c → HasSums false (design_of p) c
sizes p c h s k l r = record {
  cost_size = s.cost_is;
  cost_room = s.cost_room;
  limit_size = s.limit_is;
  limit_room = s.limit_room;
  cost = cost_sums d c shape hess (λ j i a b. far_at _ _ _ _ (k.linear.is j i a b) (no_linear_radius c _ _ _ r j i) (weighed_small d j _ (state_cost_size d i)))
      (λ j a. far_at _ _ _ _ (k.constant.is j a) (no_constant_radius c _ _ _ r j) (weighed_small d j _ (λ i b. scaled_target_size d _ i (abs-neg (d.plant_denominator ^ d.stages)) b)));
  cost_row = cost_row_sum d c shape hess;
  limits = limit_sums d c shape plan (λ i j a b. far_at _ _ _ _ (l.state.is i j a b) (no_state_radius c _ _ _ r i j) (state_row_size d j i one a))
      (λ i a. small_at _ _ _ (l.bound.is i a) (scaled (d.plant_denominator ^ d.stages) (bound_at d i) _ (powered_size d (limit_width d) _ (bound_width d i a))));
  products = products_sum d c shape plan;
}
  where
    d : Design
    d = design_of p

    shape : HasShapes c (entries d) d.states (rows d)
    shape = shapes p c k l r

    one : 1 ≤ unsigned_abs p.plant_den
    one = omega (arith, ints, h.plant_den.low)

    hess : (i j : ℕ) → i < entries d → j < entries d → far_hessian c i j ≤ cost_entry_size d
    hess i j a b = far_at _ _ _ _ (k.hessian.is i j a b) (no_hessian_radius c _ _ _ r i j) (diagonal_small p h i j)

    plan : (i j : ℕ) → i < rows d → j < entries d → far_plan c i j ≤ limit_entry_size d
    plan i j a b = far_at _ _ _ _ (l.plan.is i j a b) (no_plan_radius c _ _ _ r i j) (plan_row_size d j i one a)

    scaled : (m : ℕ) (z : ℤ) (t : ℕ) → m * unsigned_abs z ≤ t → unsigned_abs (pos m *ℤ z) ≤ t
    scaled m z t k = rw (unsigned_abs-mul (pos m) z) k

-- ---- the denominators
-- those of the design and of the form, and the least input weight
pub record HasExactDenominators (d : Design) (c : Condensed) : Type 0 where
  pub power : c.power ≡ pos (d.plant_denominator ^ d.stages)
  pub weight_den : c.weight_den ≡ pos d.cost_denominator
  pub cost_row_den : c.cost_row_den ≡ pos d.row_denominator
  pub limit_den : c.limit_den ≡ pos d.limit_denominator
  pub hess_den : c.hess_den ≡ pos (d.cost_denominator * response_scale d ^ 2)
  pub row_den : c.row_den ≡ pos (d.limit_denominator * d.plant_denominator ^ d.stages)
  pub input_floor : IsLeastInput d c.input_floor
  pub floor : c.floor ≡ pos (min (2 * d.limit_denominator * response_scale d ^ 2 * unsigned_abs c.input_floor) (2 ^ 126))

positive_pos : (z : ℤ) (n : ℕ) → z ≡ pos n → 1 ≤ n → pos 1 ≤ℤ z
positive_pos z n e h = omega (arith, ints, e, h)

denominators : (d : Design) (c : Condensed) (rho : ℕ) → IsSound d rho → HasExactDenominators d c → HasDenominators d c
denominators d c rho s e =
    let power : 1 ≤ d.plant_denominator ^ d.stages = pow_positive d.plant_denominator d.stages s.plant_denominator in
    record {
      weight_den = e.weight_den;
      cost_row_den = e.cost_row_den;
      limit_den = e.limit_den;
      power = positive_pos _ _ e.power power;
      hess_den = positive_pos _ _ e.hess_den (one-le-mul s.cost_denominator (pow_positive (response_scale d) 2 (one-le-mul s.row_denominator power)));
      row_den = positive_pos _ _ e.row_den (one-le-mul s.limit_denominator power);
      input_floor = e.input_floor;
    }

-- ---- the curvature
pub sound_of : (p : DesignParts) (rho : ℤ) → IsDesign p → IsLeastInput (design_of p) rho → IsSound (design_of p) (unsigned_abs rho)
sound_of p rho h k = record {
  plant_denominator = omega (arith, ints, h.plant_den.low);
  cost_denominator = omega (arith, ints, h.cost_den.low);
  row_denominator = omega (arith, ints, h.row_den.low);
  limit_denominator = omega (arith, ints, h.limit_den.low);
  rho_positive = omega (arith, ints, (least_is p h rho k).low);
  inputs = h.inputs.0;
  input_weight = λ l o. along (natural rho (least_is p h rho k).low) (k.below l o);
  stage_weight = h.stage_weights;
  final_weight = h.final_weights;
}
  where
    along : {z w y : ℤ} → z ≡ w → z ≤ℤ y → w ≤ℤ y
    along e h = rw (← e) h

scale_is : (a r g n : ℕ) → a * (r * g * n) ^ 2 ≡ a * (g * g * (r * n) ^ 2)
scale_is a r g n = rw (pow-two (r * g * n), pow-two (r * n)) (omega arith)

-- d'H d is at least twice the response scale's square times rho times the squares of d
pub curved_at_least : (d : Design) (k : form.Condensed) (rho : ℕ) → IsSound d rho → IsCondensed d k → (v : ℕ → ℤ) →
    (pos 2 *ℤ (pos rho *ℤ pos (response_scale d ^ 2)) *ℤ total (entries d) (λ j. square (v j))) ≤ℤ dot (entries d) v (image (entries d) k.hessian v)
curved_at_least d k rho sound c v = closed (pos d.cost_denominator) (pos (4 ^ d.grid)) (pos rho) (pos (response_scale d ^ 2)) (total (entries d) (λ j. square (v j)))
    (curvature d v) (dot (entries d) v (image (entries d) k.hessian v)) (pos (cost.cost_scale d))
    (pos_positive d.cost_denominator sound.cost_denominator) (pos_positive (4 ^ d.grid) (pow_positive 4 d.grid (omega arith)))
    (ap pos (scale_is d.cost_denominator d.row_denominator (2 ^ d.grid) (d.plant_denominator ^ d.stages) ∙ turn d.cost_denominator (2 ^ d.grid * 2 ^ d.grid) (4 ^ d.grid) (response_scale d ^ 2) (four-pow d.grid)))
    (hessian_law d k c v) (curvature_law d rho sound v)
  where
    turn : (a x y s : ℕ) → y ≡ x → a * (x * s) ≡ a * y * s
    turn a x y s e = rw e (omega arith)

    closed : (a g r s x u q t : ℤ) → pos 0 <ℤ a → pos 0 <ℤ g → t ≡ a *ℤ g *ℤ s → pos 2 *ℤ u ≡ g *ℤ q → (r *ℤ t *ℤ x) ≤ℤ (a *ℤ u) → (pos 2 *ℤ (r *ℤ s) *ℤ x) ≤ℤ q
    closed a g r s x u q t pa pg e f h = cancel-le_z (a *ℤ g) _ q (mul_pos_z a g pa pg)
        (le_by (mul-le-mul_left_z (pos 2) (omega (arith, ints)) h) (rw e (both a g r s x u q f)))
      where
        both : (a g r s x u q : ℤ) → pos 2 *ℤ u ≡ g *ℤ q → a *ℤ g *ℤ q +ℤ pos 2 *ℤ (r *ℤ (a *ℤ g *ℤ s) *ℤ x) ≡ a *ℤ g *ℤ (pos 2 *ℤ (r *ℤ s) *ℤ x) +ℤ pos 2 *ℤ (a *ℤ u)
        both a g r s x u q f = first a g q (pos 2 *ℤ (r *ℤ (a *ℤ g *ℤ s) *ℤ x)) ∙ ap (λ (z : ℤ). a *ℤ z +ℤ pos 2 *ℤ (r *ℤ (a *ℤ g *ℤ s) *ℤ x)) (sym f) ∙ second a g r s x u
          where
            first : (a g q y : ℤ) → a *ℤ g *ℤ q +ℤ y ≡ a *ℤ (g *ℤ q) +ℤ y
            first a g q y = by_ring (a ∷ g ∷ q ∷ y ∷ []) (search quotes depth 60 fits 20000) refl

            second : (a g r s x u : ℤ) → a *ℤ (pos 2 *ℤ u) +ℤ pos 2 *ℤ (r *ℤ (a *ℤ g *ℤ s) *ℤ x) ≡ a *ℤ g *ℤ (pos 2 *ℤ (r *ℤ s) *ℤ x) +ℤ pos 2 *ℤ (a *ℤ u)
            second a g r s x u = by_ring (a ∷ g ∷ r ∷ s ∷ x ∷ u ∷ []) (search quotes depth 60 fits 20000) refl

-- a smaller number times the squares, and a greater times the form
bounded : (f m x : ℤ) (q l b : ℤ) → pos 0 ≤ℤ x → pos 0 ≤ℤ l → f ≤ℤ (l *ℤ m) → (m *ℤ x) ≤ℤ q → b ≡ l *ℤ q → (f *ℤ x) ≤ℤ b
bounded f m x q l b px pl h k e = rw e (le_by (add-le-add_z (mul-le-mul_right_z x px h) (mul-le-mul_left_z l pl k))
    (by_ring (f ∷ m ∷ x ∷ q ∷ l ∷ []) (search quotes depth 60 fits 20000) refl))

convex : (p : DesignParts) (c : Condensed) → IsDesign p → HasExactDenominators (design_of p) c → IsCondensed (design_of p) (form_numbers c) →
    IsConvex (entries (design_of p)) (solve_matrix (held c)) c.floor
convex p c h e k = record {
  positive = positive_pos _ _ e.floor ((some (unsigned_abs p.limit_den) (response_scale d ^ 2) (unsigned_abs c.input_floor) sound.limit_denominator
      (pow_positive (response_scale d) 2 (one-le-mul sound.row_denominator (pow_positive d.plant_denominator d.stages sound.plant_denominator))) sound.rho_positive));
  symmetric = λ i j l m. ap (λ (z : ℤ). c.limit_den *ℤ z) (k.symmetric i j l m);
  curved = λ v. bounded c.floor (pos 2 *ℤ (pos (unsigned_abs c.input_floor) *ℤ pos (response_scale d ^ 2))) (total (entries d) (λ j. square (v j)))
      (dot (entries d) v (image (entries d) (entry_of c.hess) v)) c.limit_den _
      (total_nonneg (entries d) _ (λ j l. square_nonneg_z (v j))) (rw e.limit_den (natural_nonneg (unsigned_abs p.limit_den)))
      (rw (e.floor, e.limit_den) (floor_le (unsigned_abs p.limit_den) (response_scale d ^ 2) (unsigned_abs c.input_floor) (2 ^ 126)))
      (curved_at_least d (form_numbers c) (unsigned_abs c.input_floor) sound k v) (quadratic_scale (entries d) c.limit_den (entry_of c.hess) v);
}
  where
    d : Design
    d = design_of p

    sound : IsSound d (unsigned_abs c.input_floor)
    sound = sound_of p c.input_floor h e.input_floor

    natural_nonneg : (n : ℕ) → pos 0 ≤ℤ pos n
    natural_nonneg n = omega (arith, ints)

    some : (l s r : ℕ) → 1 ≤ l → 1 ≤ s → 1 ≤ r → 1 ≤ min (2 * l * s * r) (2 ^ 126)
    some l s r hl hs hr = least (one-le-mul (one-le-mul (one-le-mul two hl) hs) hr)
      where
        two : 1 ≤ 2
        two = omega arith

        least : 1 ≤ 2 * l * s * r → 1 ≤ min (2 * l * s * r) (2 ^ 126)
        least h = omega arith

    floor_le : (l s r t : ℕ) → pos (min (2 * l * s * r) t) ≤ℤ (pos l *ℤ (pos 2 *ℤ (pos r *ℤ pos s)))
    floor_le l s r t = le_naturals _ _ (under (turn l s r))
      where
        turn : (l s r : ℕ) → 2 * l * s * r ≡ l * (2 * (r * s))
        turn l s r = omega arith

        under : 2 * l * s * r ≡ l * (2 * (r * s)) → min (2 * l * s * r) t ≤ l * (2 * (r * s))
        under e = omega arith

        le_naturals : (a b : ℕ) → a ≤ b → pos a ≤ℤ pos b
        le_naturals a b h = omega (arith, ints)

-- ---- all
-- the numbers are those of the design's exact form
same : (p : DesignParts) (c : Condensed) → IsDesign p → HasShapes c (entries (design_of p)) p.states (rows (design_of p)) → c.fine ≡ false → HasNoRadii p c →
    HasExactDenominators (design_of p) c → Agrees (design_of p) (form_numbers c) → HaveSameNumbers (held c) (exact_form (design_of p))
same p c h s f r e a = record {
  entries = s.hess.rows;
  states = s.lin.cols;
  rows = s.g.rows;
  hessian = a.hessian;
  linear = a.linear;
  constant = a.constant;
  by_plan = λ i j l m. a.limits.plan i j l m ∙ sym (plan_number d i j h.inputs.0);
  by_state = λ i j l m. a.limits.state i j l m ∙ sym (state_number d i j);
  bound = λ i l. a.limits.bound i l ∙ sym (bound_number d i);
  hessian_radius = λ i j l m. no_hessian_radius c _ _ _ r i j;
  linear_radius = λ j i l m. no_linear_radius c _ _ _ r j i;
  constant_radius = λ j l. no_constant_radius c _ _ _ r j;
  plan_radius = λ i j l m. no_plan_radius c _ _ _ r i j;
  state_radius = λ i j l m. no_state_radius c _ _ _ r i j;
  hessian_scale = ap unsigned_abs e.hess_den;
  rows_scale = ap unsigned_abs e.row_den;
  matrix_factor = e.limit_den;
  row_factor = rw (e.power, e.cost_row_den, e.weight_den, pow-two d.row_denominator) (turn (d.plant_denominator ^ d.stages) d.row_denominator d.cost_denominator);
  floor = e.floor ∙ ap (λ (n : ℕ). pos (min (2 * d.limit_denominator * response_scale d ^ 2 * n) (2 ^ 126))) (least_equal p c.input_floor h e.input_floor);
  spread = ap spread_of f;
}
  where
    d : Design
    d = design_of p

    turn : (a r w : ℕ) → pos (a * (r * (r * w))) ≡ pos (w * (r * r) * a)
    turn a r w = ap (λ (n : ℕ). pos n) (let e : a * (r * (r * w)) ≡ w * (r * r) * a = omega arith in e)

pub exact_form_of : (p : DesignParts) (c : Condensed) → IsDesign p → c.fine ≡ false → AreEntrySizes (design_of p) c.hess_size c.rows_size →
    AreCostNumbers (design_of p) c.hess c.lin c.off.items → AreLimitNumbers (design_of p) c.g c.e c.bound.items → HasNoRadii p c →
    HasExactDenominators (design_of p) c → IsFormIn false p c
exact_form_of p c h f s k l r e =
    let a = agrees p c h k l in
    let shape = shapes p c k l r in
    record {
      design = h;
      class = f;
      shapes = shape;
      radii = radii_of c _ _ _ r;
      same = same p c h shape f r e a;
      encloses = exact_form_law p h;
      denominators = denominators (design_of p) c (unsigned_abs c.input_floor) (sound_of p c.input_floor h e.input_floor) e;
      convex = convex p c h e (agrees_law (design_of p) (form_numbers c) h.inputs.0 a);
      sizes = sizes p c h s k l r;
    }
