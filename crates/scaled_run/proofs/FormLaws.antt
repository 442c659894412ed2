-- The form of the one recipe in the two classes.
use Rattle.std.proofs.Common.{◌≡◌, inl, inr, ℕ, zero, suc, ◌+◌, ◌-◌, ◌*◌, ◌/◌, ◌%◌, ◌^◌, ◌<◌, ◌≤◌, min, [], ◌∷◌, Bool, true, false, ℤ, pos, negsuc, ◌+ℤ◌, ◌-ℤ◌, ◌*ℤ◌, neg_ℤ, unsigned_abs, nat_eq, nat_lt, if◌then◌else◌, arith, ap, sym, ◌∙◌, refl}
use Rattle.std.proofs.lemmas.Int.{ints}
use Rattle.std.specs.Int.{int_min}
use Rattle.std.proofs.lemmas.Bool.{cases_lt, lt-ltb, le-ltb}
use Rattle.std.proofs.Math.Nat.{div-one, mul-one, mul-zero}
use Rattle.integer_algebra.specs.Sums.{total, none, square}
use Rattle.integer_algebra.specs.Sizes.{amount}
use Rattle.integer_algebra.proofs.RingLaws.{add_equations}
use Rattle.integer_algebra.proofs.SumLaws.{total_same, total_scale}
use Rattle.integer_algebra.proofs.PowerLaws.{pow-two}
use Rattle.integer_algebra.proofs.Quoting.{by_ring, quotes}
use Rattle.frac_scaled.specs.Enclosures.{Enclosure, divided, sum_of, multiple, whole_product}
use Rattle.qp_model.specs.problem.Design.{Design, CostRow, entries}
use Rattle.qp_model.specs.form.Condensing.{condensed_of, cost_target, own_input}
use Rattle.qp_model.specs.problem.Runs.{unit, cost_run, counted, counts}
use Rattle.qp_model.specs.form.FineForm.{counted_row, own_weight}
use Rattle.qp_model.specs.form.Quantities.{greatest, input_floor}
use Rattle.qp_model.proofs.GramLaws as exact
use Rattle.qp_model.proofs.GramLaws.{own_diagonal}
use Rattle.qp_model.proofs.RowLaws.{plan_number, state_number, bound_number, stage_inside, lift_power}
use Rattle.scaled_run.specs.ScaledForm.{whole, product_unit, exact_unit, scaled_costs, scaled_products, scaled_hessian, scaled_linear, scaled_constant, scaled_by_plan, scaled_by_state, scaled_radius}
use Rattle.scaled_run.specs.ScaledLaws.{FineIsScaled, ExactIsScaled, ExactRadiiLaw}
use Rattle.scaled_run.proofs.EvenLaws.{bare, divided_one, combination_bare, product_bare}
use Rattle.scaled_run.proofs.RunLaws.{exact_cost_law, exact_limit_law}

-- ---- enclosures
pub fine_is_scaled : FineIsScaled
fine_is_scaled d = rw (mul-one (d.cost_denominator * d.row_denominator ^ 2)) refl

-- ---- the columns of the cost rows
-- what a counted row has of each column, exactly
unfoldable pub exact_costs : Design → ℕ → ℕ → ℤ
exact_costs d c j =
    if nat_lt j (entries d) then counted d (cost_run d none (unit j)) c
    else if nat_lt j (entries d + d.states) then counted d (cost_run d (unit (j - entries d)) none) c
    else counted d (cost_target d) c

-- over 1
whole_one : (z : ℤ) → whole 1 z ≡ bare z
whole_one z = ap bare (once z)
  where
    once : (z : ℤ) → pos 1 *ℤ z ≡ z
    once z = omega (arith, ints)

-- the target's row
target_is : (d : Design) (c : ℕ) → whole (exact_unit d) (counted_row d c).target ≡ bare (counted d (cost_target d) c)
target_is d c = elim (cases_lt c (d.stages * d.stage_costs)) [
  | inl m ↦ rw (lt-ltb c (d.stages * d.stage_costs) m)
      (ap bare (lifted (d.stage_cost (c % d.stage_costs)).target _ _ _ (lift_power d.plant_denominator d.stages (suc (c / d.stage_costs)) (stage_inside c d.stages d.stage_costs m))))
  | inr m ↦ rw (le-ltb c (d.stages * d.stage_costs) m)
      (ap bare (lifted (d.final_cost (c - d.stages * d.stage_costs)).target _ _ _ (lift_power d.plant_denominator d.stages d.stages (same d.stages))))
]
  where
    same : (n : ℕ) → n ≤ n
    same n = omega arith

    plain : (z m q : ℤ) → m *ℤ q *ℤ z ≡ m *ℤ (q *ℤ z)
    plain z m q = by_ring (z ∷ m ∷ q ∷ []) (search quotes depth 60 fits 20000) refl

    lifted : (z : ℤ) (m q n : ℕ) → m * q ≡ n → pos n *ℤ z ≡ pos m *ℤ (pos q *ℤ z)
    lifted z m q n e = rw (← e) (plain z (pos m) (pos q))

costs_are : (d : Design) → 1 ≤ d.plant_denominator → (c j : ℕ) → scaled_costs (exact_unit d) d c j ≡ bare (exact_costs d c j)
unfolding exact_costs
costs_are d h c j = elim (cases_lt j (entries d)) [
  | inl l ↦ rw (lt-ltb j (entries d) l) (exact_cost_law d none (unit j) c h ∙ whole_one (counted d (cost_run d none (unit j)) c))
  | inr l ↦ (elim (cases_lt j (entries d + d.states)) [
    | inl m ↦ rw (le-ltb j (entries d) l, lt-ltb j (entries d + d.states) m) (exact_cost_law d (unit (j - entries d)) none c h ∙ whole_one (counted d (cost_run d (unit (j - entries d)) none) c))
    | inr m ↦ rw (le-ltb j (entries d) l, le-ltb j (entries d + d.states) m) (target_is d c)
  ])
]

pub plan_column : (d : Design) (c j : ℕ) → j < entries d → exact_costs d c j ≡ counted d (cost_run d none (unit j)) c
unfolding exact_costs
plan_column d c j l = rw (lt-ltb j (entries d) l) refl

pub state_column : (d : Design) (c i : ℕ) → i < d.states → exact_costs d c (entries d + i) ≡ counted d (cost_run d (unit i) none) c
unfolding exact_costs
state_column d c i l = rw (le-ltb (entries d + i) (entries d) (least (entries d) i), lt-ltb (entries d + i) (entries d + d.states) (omega arith)) (ap (λ (m : ℕ). counted d (cost_run d (unit m) none) c) (past (entries d) i))
  where
    least : (n i : ℕ) → n ≤ n + i
    least n i = omega arith

    past : (n i : ℕ) → n + i - n ≡ i
    past n i = omega arith

pub target_column : (d : Design) (c : ℕ) → exact_costs d c (entries d + d.states) ≡ counted d (cost_target d) c
unfolding exact_costs
target_column d c = rw (le-ltb (entries d + d.states) (entries d) (least (entries d) d.states), le-ltb (entries d + d.states) (entries d + d.states) (same (entries d + d.states))) refl
  where
    least : (n i : ℕ) → n ≤ n + i
    least n i = omega arith

    same : (n : ℕ) → n ≤ n
    same n = omega arith

-- ---- their products
unfoldable pub exact_products : Design → ℕ → ℕ → ℤ
exact_products d j l = total (counts d) (λ c. (counted_row d c).weight *ℤ (exact_costs d c j *ℤ exact_costs d c l))

products_are : (d : Design) → 1 ≤ d.plant_denominator → (j l : ℕ) → scaled_products (exact_unit d) 1 d j l ≡ bare (exact_products d j l)
unfolding exact_products
products_are d h j l =
    ap (λ (e : Enclosure). divided e 1)
    (combination_bare (counts d) (λ c. (counted_row d c).weight) (λ c. whole_product (scaled_costs (exact_unit d) d c j) (scaled_costs (exact_unit d) d c l))
    (λ c. exact_costs d c j *ℤ exact_costs d c l) (λ c m. rw (costs_are d h c j, costs_are d h c l) (product_bare (exact_costs d c j) (exact_costs d c l)))) ∙
    divided_one _

-- what they are over
unfoldable pub over : Design → ℕ
over d = exact_unit d * exact_unit d

-- a sum over the counted rows, each with a multiple of its weight
pub weighed_total : (d : Design) (m : ℤ) (f g : ℕ → CostRow → ℤ) (term : ℕ → CostRow → ℤ) (j l : ℕ) →
    ((k : ℕ) (r : CostRow) → term k r ≡ m *ℤ (r.weight *ℤ (f k r *ℤ g k r))) →
    ((c : ℕ) → exact_costs d c j ≡ counted d f c) → ((c : ℕ) → exact_costs d c l ≡ counted d g c) →
    total (counts d) (counted d term) ≡ m *ℤ exact_products d j l
unfolding exact_products
weighed_total d m f g term j l h p q = total_same (counts d) _ _ (λ c o. row c) ∙ total_scale (counts d) m (λ c. (counted_row d c).weight *ℤ (exact_costs d c j *ℤ exact_costs d c l))
  where
    row : (c : ℕ) → counted d term c ≡ m *ℤ ((counted_row d c).weight *ℤ (exact_costs d c j *ℤ exact_costs d c l))
    row c = rw (p c, q c) (elim (cases_lt c (d.stages * d.stage_costs)) [
      | inl o ↦ rw (lt-ltb c (d.stages * d.stage_costs) o) (h (suc (c / d.stage_costs)) (d.stage_cost (c % d.stage_costs)))
      | inr o ↦ rw (le-ltb c (d.stages * d.stage_costs) o) (h d.stages (d.final_cost (c - d.stages * d.stage_costs)))
    ])

-- the inputs' own costs
pub own_is : (d : Design) (i j : ℕ) → i < entries d →
    total d.stages (λ k. total d.inputs (λ l. pos 2 *ℤ (d.input_weight l *ℤ (own_input d k l i *ℤ own_input d k l j)))) ≡ pos 2 *ℤ (own_weight d i j *ℤ pos (over d))
unfolding over
own_is d i j l = own_diagonal d i j l ∙ chosen (nat_eq i j) (d.input_weight (i % d.inputs)) d.row_denominator (d.plant_denominator ^ d.stages)
  where
    plain : (w r a : ℤ) → pos 2 *ℤ (w *ℤ (r *ℤ a *ℤ (r *ℤ a))) ≡ pos 2 *ℤ (w *ℤ (r *ℤ r) *ℤ (a *ℤ a))
    plain w r a = by_ring (w ∷ r ∷ a ∷ []) (search quotes depth 60 fits 20000) refl

    nought : (a : ℤ) → pos 0 ≡ pos 2 *ℤ (pos 0 *ℤ a)
    nought a = by_ring (a ∷ []) (search quotes depth 60 fits 20000) refl

    chosen : (b : Bool) (w : ℤ) (r a : ℕ) →
        (if b then pos 2 *ℤ (w *ℤ square (pos (r * a))) else pos 0) ≡ pos 2 *ℤ ((if b then w *ℤ pos (r ^ 2) else pos 0) *ℤ pos (a * a))
    chosen true w r a = rw (pow-two r) (plain w (pos r) (pos a))
    chosen false w r a = nought (pos (a * a))

-- ---- the condensed cost
multiple_bare : (c z : ℤ) → multiple c (bare z) ≡ bare (c *ℤ z)
multiple_bare c z = ap (λ (w : ℤ). record { mid = c *ℤ z; rad = w }) (nought (pos (unsigned_abs c)))
  where
    nought : (a : ℤ) → a *ℤ pos 0 ≡ pos 0
    nought a = by_ring (a ∷ []) (search quotes depth 60 fits 20000) refl

hessian_bare : (d : Design) → 1 ≤ d.plant_denominator → (i j : ℕ) →
    scaled_hessian (exact_unit d) 1 d i j ≡ bare (pos 2 *ℤ (exact_products d i j +ℤ pos (product_unit (exact_unit d) 1) *ℤ own_weight d i j))
hessian_bare d h i j =
    ap (λ (e : Enclosure). multiple (pos 2) (sum_of e (whole (product_unit (exact_unit d) 1) (own_weight d i j)))) (products_are d h i j) ∙
    multiple_bare (pos 2) (exact_products d i j +ℤ pos (product_unit (exact_unit d) 1) *ℤ own_weight d i j)

hessian_is : (d : Design) → 1 ≤ d.plant_denominator → 1 ≤ d.inputs → (i j : ℕ) → i < entries d → j < entries d →
    scaled_hessian (exact_unit d) 1 d i j ≡ bare ((condensed_of d).hessian i j)
unfolding over
hessian_is d h p i j l m = hessian_bare d h i j ∙ ap bare (turned (exact_products d i j) (own_weight d i j) (exact_unit d) ∙
    sym ((exact.gram_law d).hessian i j p ∙
    add_equations (weighed_total d (pos 2) (cost_run d none (unit i)) (cost_run d none (unit j)) _ i j (λ k r. refl) (λ c. plan_column d c i l) (λ c. plan_column d c j m)) (own_is d i j l)))
  where
    plain : (x w a : ℤ) → pos 2 *ℤ (x +ℤ a *ℤ w) ≡ pos 2 *ℤ x +ℤ pos 2 *ℤ (w *ℤ a)
    plain x w a = by_ring (x ∷ w ∷ a ∷ []) (search quotes depth 60 fits 20000) refl

    turned : (x w : ℤ) (a : ℕ) → pos 2 *ℤ (x +ℤ pos (a * a / 1) *ℤ w) ≡ pos 2 *ℤ x +ℤ pos 2 *ℤ (w *ℤ pos (a * a))
    turned x w a = rw (div-one (a * a)) (plain x w (pos (a * a)))

linear_bare : (d : Design) → 1 ≤ d.plant_denominator → (j i : ℕ) → scaled_linear (exact_unit d) 1 d j i ≡ bare (pos 2 *ℤ exact_products d j (entries d + i))
linear_bare d h j i = ap (λ (e : Enclosure). multiple (pos 2) e) (products_are d h j (entries d + i)) ∙ multiple_bare (pos 2) (exact_products d j (entries d + i))

linear_is : (d : Design) → 1 ≤ d.plant_denominator → 1 ≤ d.inputs → (j i : ℕ) → j < entries d → i < d.states →
    scaled_linear (exact_unit d) 1 d j i ≡ bare ((condensed_of d).linear j i)
linear_is d h p j i l m = linear_bare d h j i ∙ ap bare (sym ((exact.gram_law d).linear j i p ∙
    weighed_total d (pos 2) (cost_run d none (unit j)) (cost_run d (unit i) none) _ j (entries d + i) (λ k r. refl) (λ c. plan_column d c j l) (λ c. state_column d c i m)))

constant_bare : (d : Design) → 1 ≤ d.plant_denominator → (j : ℕ) → scaled_constant (exact_unit d) 1 d j ≡ bare (negsuc 1 *ℤ exact_products d j (entries d + d.states))
constant_bare d h j = ap (λ (e : Enclosure). multiple (negsuc 1) e) (products_are d h j (entries d + d.states)) ∙ multiple_bare (negsuc 1) (exact_products d j (entries d + d.states))

constant_is : (d : Design) → 1 ≤ d.plant_denominator → 1 ≤ d.inputs → (j : ℕ) → j < entries d →
    scaled_constant (exact_unit d) 1 d j ≡ bare ((condensed_of d).constant j)
constant_is d h p j l = constant_bare d h j ∙ ap bare (sym ((exact.gram_law d).constant j p ∙
    weighed_total d (negsuc 1) (cost_run d none (unit j)) (cost_target d) _ j (entries d + d.states) (λ k r. turned (r.weight *ℤ (cost_run d none (unit j) k r *ℤ cost_target d k r)))
    (λ c. plan_column d c j l) (λ c. target_column d c)))
  where
    turned : (x : ℤ) → neg_ℤ (pos 2 *ℤ x) ≡ negsuc 1 *ℤ x
    turned x = omega (arith, ints)

-- ---- the condensed limits
by_plan_is : (d : Design) → 1 ≤ d.plant_denominator → 1 ≤ d.inputs → (i j : ℕ) → scaled_by_plan (exact_unit d) d i j ≡ bare ((condensed_of d).by_plan i j)
by_plan_is d h p i j = exact_limit_law d none (unit j) i h ∙ whole_one _ ∙ ap bare (sym (plan_number d i j p))

by_state_is : (d : Design) → 1 ≤ d.plant_denominator → (i j : ℕ) → scaled_by_state (exact_unit d) d i j ≡ bare ((condensed_of d).by_state i j)
by_state_is d h i j = exact_limit_law d (unit j) none i h ∙ whole_one _ ∙ ap bare (sym (state_number d i j))

-- ---- parts of an enclosure with no radius
mid_is : {e : Enclosure} {z : ℤ} → e ≡ bare z → e.mid ≡ z
mid_is h = ap (λ (e : Enclosure). e.mid) h

rad_is : {e : Enclosure} {z : ℤ} → e ≡ bare z → unsigned_abs e.rad ≡ 0
rad_is h = ap (λ (e : Enclosure). unsigned_abs e.rad) h

-- no radius is left in a row of the hessian, and none in the greatest
pub amount_none : (n : ℕ) (f : ℕ → ℕ) → ((i : ℕ) → f i ≡ 0) → amount n f ≡ 0
amount_none zero f h = refl
amount_none (suc n) f h = omega (arith, amount_none n f h, h n)

pub greatest_none : (n : ℕ) (f : ℕ → ℕ) → ((i : ℕ) → f i ≡ 0) → greatest n f ≡ 0
greatest_none zero f h = refl
greatest_none (suc n) f h = rw (greatest_none n f h, h n) refl

pub radius_none : (d : Design) → 1 ≤ d.plant_denominator → scaled_radius (exact_unit d) 1 d ≡ 0
radius_none d h = greatest_none (entries d) _ (λ i. amount_none (entries d) _ (λ j. rad_is (hessian_bare d h i j)))

-- ---- all of it
pub exact_radii_law : ExactRadiiLaw
exact_radii_law d h = record {
  hessian = λ i j l m. rad_is (hessian_bare d h i j);
  linear = λ j i l m. rad_is (linear_bare d h j i);
  constant = λ j l. rad_is (constant_bare d h j);
  plan = λ i j l m. rad_is (exact_limit_law d none (unit j) i h);
  state = λ i j l m. rad_is (by_state_is d h i j);
}

pub exact_is_scaled : ExactIsScaled
exact_is_scaled d h p = record {
  entries = refl;
  states = refl;
  rows = refl;
  hessian = λ i j l m. mid_is (hessian_is d h p i j l m);
  linear = λ j i l m. mid_is (linear_is d h p j i l m);
  constant = λ j l. mid_is (constant_is d h p j l);
  by_plan = λ i j l m. mid_is (by_plan_is d h p i j);
  by_state = λ i j l m. mid_is (by_state_is d h i j);
  bound = λ i l. sym (bound_number d i);
  hessian_radius = λ i j l m. rad_is (hessian_bare d h i j);
  linear_radius = λ j i l m. rad_is (linear_bare d h j i);
  constant_radius = λ j l. rad_is (constant_bare d h j);
  plan_radius = λ i j l m. rad_is (by_plan_is d h p i j);
  state_radius = λ i j l m. rad_is (by_state_is d h i j);
  hessian_scale = scale d.cost_denominator d.row_denominator (exact_unit d);
  rows_scale = refl;
  matrix_factor = refl;
  row_factor = ap (λ (n : ℕ). pos (d.cost_denominator * d.row_denominator ^ 2 * n)) (div-one (exact_unit d));
  floor = floor d.limit_denominator d.row_denominator (exact_unit d) (input_floor d) (scaled_radius (exact_unit d) 1 d) (radius_none d h);
  spread = refl;
}
  where
    scale : (w r a : ℕ) → w * r ^ 2 * (a * a / 1) ≡ w * (r * a) ^ 2
    scale w r a = rw (div-one (a * a), pow-two (r * a), pow-two r) (omega arith)

    none : (x : ℤ) (l radius : ℕ) → radius ≡ 0 → x -ℤ pos (l * radius) ≡ x
    none x l radius e = rw (e, mul-zero l) (omega (arith, ints))

    least_is : (a b : ℕ) → int_min (pos a) (pos b) ≡ pos (min a b)
    least_is a b = grind (arith, ints)

    naturals : (l r a rho : ℕ) → 2 * l * r ^ 2 * (a * a / 1) * rho ≡ 2 * l * (r * a) ^ 2 * rho
    naturals l r a rho = rw (div-one (a * a), pow-two (r * a), pow-two r) (omega arith)

    floor : (l r a rho radius : ℕ) → radius ≡ 0 →
        int_min (pos (2 * l * r ^ 2 * (a * a / 1) * rho) -ℤ pos (l * radius)) (pos (2 ^ 126)) ≡ pos (min (2 * l * (r * a) ^ 2 * rho) (2 ^ 126))
    floor l r a rho radius e =
        ap (λ (z : ℤ). int_min z (pos (2 ^ 126))) (none (pos (2 * l * r ^ 2 * (a * a / 1) * rho)) l radius e ∙ ap pos (naturals l r a rho)) ∙
        least_is (2 * l * (r * a) ^ 2 * rho) (2 ^ 126)
