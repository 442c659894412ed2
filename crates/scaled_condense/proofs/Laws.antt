-- The condensed numbers in enclosures enclose the exact ones.
use Rattle.std.proofs.Common.{◌≡◌, ◌≢◌, inl, inr, ℕ, suc, ◌+◌, ◌-◌, ◌*◌, ◌/◌, ◌%◌, ◌^◌, ◌<◌, ◌≤◌, max, [], ◌∷◌, Bool, true, false, ℤ, pos, negsuc, ◌+ℤ◌, ◌-ℤ◌, ◌*ℤ◌, ◌≤ℤ◌, neg_ℤ, unsigned_abs, nat_eq, nat_lt, if◌then◌else◌, arith, ap, sym, ◌∙◌, refl}
use Rattle.std.proofs.lemmas.Int.{ints}
use Rattle.std.proofs.lemmas.Bool.{cases_lt, lt-ltb, le-ltb}
use Rattle.std.proofs.lemmas.Bool.Decides.{eqb_tells}
use Rattle.integer_algebra.specs.Bounds.{IsWithin}
use Rattle.integer_algebra.specs.Division.{round_of}
use Rattle.integer_algebra.specs.Sums.{total, none, square}
use Rattle.integer_algebra.proofs.BoundLaws.{within_times, within_more}
use Rattle.integer_algebra.proofs.OrderLaws.{mul-le-mul_right_z}
use Rattle.integer_algebra.proofs.RingLaws.{add_equations}
use Rattle.integer_algebra.proofs.SumLaws.{total_same, total_scale}
use Rattle.integer_algebra.proofs.PowerLaws.{pow-two, pow_positive}
use Rattle.integer_algebra.proofs.Quoting.{by_ring, quotes}
use Rattle.frac_scaled.specs.Enclosures.{Enclosure, Encloses, exactly, sum_of}
use Rattle.frac_scaled.proofs.EnclosureLaws.{encloses_within, common_law, multiple_law, whole_law}
use Rattle.mat_int.proofs.EnclosureLaws.{gram_law}
use Rattle.qp_model.specs.problem.Design.{Design, CostRow, entries}
use Rattle.qp_model.specs.form.Condensing.{condensed_of, cost_target, own_input}
use Rattle.qp_model.specs.problem.Runs.{unit, bound_at, cost_run, counted, counts}
use Rattle.qp_model.specs.form.Form as form
use Rattle.qp_model.specs.form.FineForm.{counted_row, fine_costs, fine_products, own_weight, fine_hessian, fine_linear, fine_constant, fine_by_plan, fine_by_state, hessian_row_radius, FineLaw}
use Rattle.qp_model.specs.form.FineSizes.{FineFormLaw}
use Rattle.qp_model.specs.form.Quantities.{input_floor}
use Rattle.qp_model.proofs.SizeFacts.{greatest_term}
use Rattle.std.proofs.Math.Nat.{one-le-mul}
use Rattle.qp_model.proofs.GramLaws as exact
use Rattle.qp_model.proofs.GramLaws.{own_diagonal}
use Rattle.qp_model.proofs.RowLaws.{plan_number, state_number, bound_number, stage_inside}
use Rattle.scaled_run.proofs.FormLaws.{exact_costs, plan_column, state_column, target_column, exact_products, over, weighed_total, own_is}
use Rattle.scaled_run.proofs.Runs.{enclosed_as, natural_some, whole_encloses, whole_cost_encloses, whole_limit_encloses}

-- ---- the columns of the cost rows
target_encloses : (d : Design) (c : ℕ) → Encloses (exactly (counted_row d c).target) (counted d (cost_target d) c) (pos (d.plant_denominator ^ d.stages))
target_encloses d c = elim (cases_lt c (d.stages * d.stage_costs)) [
  | inl m ↦ rw (lt-ltb c (d.stages * d.stage_costs) m) (whole_encloses d (d.stage_cost (c % d.stage_costs)).target (suc (c / d.stage_costs)) (stage_inside c d.stages d.stage_costs m))
  | inr m ↦ rw (le-ltb c (d.stages * d.stage_costs) m) (whole_encloses d (d.final_cost (c - d.stages * d.stage_costs)).target d.stages (same d.stages))
]
  where
    same : (n : ℕ) → n ≤ n
    same n = omega arith

costs_enclose : (d : Design) → 1 ≤ d.plant_denominator → (c j : ℕ) → Encloses (fine_costs d c j) (exact_costs d c j) (pos (d.plant_denominator ^ d.stages))
unfolding exact_costs
costs_enclose d h c j = elim (cases_lt j (entries d)) [
  | inl l ↦ rw (lt-ltb j (entries d) l) (whole_cost_encloses d none (unit j) h c)
  | inr l ↦ (elim (cases_lt j (entries d + d.states)) [
    | inl m ↦ rw (le-ltb j (entries d) l, lt-ltb j (entries d + d.states) m) (whole_cost_encloses d (unit (j - entries d)) none h c)
    | inr m ↦ rw (le-ltb j (entries d) l, le-ltb j (entries d + d.states) m) (target_encloses d c)
  ])
]

-- ---- their products
products_enclose : (d : Design) → 1 ≤ d.plant_denominator → (j l : ℕ) → Encloses (fine_products d j l) (exact_products d j l) (pos (over d))
unfolding exact_products over
products_enclose d h j l =
    gram_law (counts d) (λ c. (counted_row d c).weight) (fine_costs d) j l (exact_costs d) (λ i. pos (d.plant_denominator ^ d.stages))
    (natural_some _ (pow_positive d.plant_denominator d.stages h)) (natural_some _ (pow_positive d.plant_denominator d.stages h))
    (λ c m. (costs_enclose d h c j, costs_enclose d h c l))

-- ---- the condensed cost
hessian_encloses : (d : Design) → 1 ≤ d.plant_denominator → 1 ≤ d.inputs → (i j : ℕ) → i < entries d → j < entries d →
    Encloses (fine_hessian d i j) ((condensed_of d).hessian i j) (pos (over d))
hessian_encloses d h p i j l m =
    enclosed_as _ (pos (over d)) (sym ((exact.gram_law d).hessian i j p ∙
    add_equations (weighed_total d (pos 2) (cost_run d none (unit i)) (cost_run d none (unit j)) _ i j (λ k r. refl) (λ c. plan_column d c i l) (λ c. plan_column d c j m)) (own_is d i j l) ∙
    twice (exact_products d i j) (own_weight d i j *ℤ pos (over d)))) refl
    (multiple_law (pos 2) (sum_of (fine_products d i j) (exactly (own_weight d i j))) (exact_products d i j +ℤ own_weight d i j *ℤ pos (over d)) (pos (over d))
    (common_law (fine_products d i j) (exactly (own_weight d i j)) (exact_products d i j) (own_weight d i j *ℤ pos (over d)) (pos (over d)) (products_enclose d h i j)
    (whole_law (own_weight d i j) (pos (over d)))))
  where
    twice : (x y : ℤ) → pos 2 *ℤ x +ℤ pos 2 *ℤ y ≡ pos 2 *ℤ (x +ℤ y)
    twice x y = omega (arith, ints)

linear_encloses : (d : Design) → 1 ≤ d.plant_denominator → 1 ≤ d.inputs → (j i : ℕ) → j < entries d → i < d.states →
    Encloses (fine_linear d j i) ((condensed_of d).linear j i) (pos (over d))
linear_encloses d h p j i l m =
    enclosed_as _ (pos (over d)) (sym ((exact.gram_law d).linear j i p ∙
    weighed_total d (pos 2) (cost_run d none (unit j)) (cost_run d (unit i) none) _ j (entries d + i) (λ k r. refl) (λ c. plan_column d c j l) (λ c. state_column d c i m))) refl
    (multiple_law (pos 2) (fine_products d j (entries d + i)) _ (pos (over d)) (products_enclose d h j (entries d + i)))

constant_encloses : (d : Design) → 1 ≤ d.plant_denominator → 1 ≤ d.inputs → (j : ℕ) → j < entries d →
    Encloses (fine_constant d j) ((condensed_of d).constant j) (pos (over d))
constant_encloses d h p j l =
    enclosed_as _ (pos (over d)) (sym ((exact.gram_law d).constant j p ∙
    weighed_total d (negsuc 1) (cost_run d none (unit j)) (cost_target d) _ j (entries d + d.states) (λ k r. turned (r.weight *ℤ (cost_run d none (unit j) k r *ℤ cost_target d k r)))
    (λ c. plan_column d c j l) (λ c. target_column d c))) refl
    (multiple_law (negsuc 1) (fine_products d j (entries d + d.states)) _ (pos (over d)) (products_enclose d h j (entries d + d.states)))
  where
    turned : (x : ℤ) → neg_ℤ (pos 2 *ℤ x) ≡ negsuc 1 *ℤ x
    turned x = omega (arith, ints)

-- ---- symmetry
symmetric : (d : Design) (i j : ℕ) → (fine_hessian d i j).mid ≡ (fine_hessian d j i).mid
symmetric d i j = ap (λ (z : ℤ). pos 2 *ℤ z) (add_equations products (ap (λ (z : ℤ). pos (2 ^ 40) *ℤ z) own))
  where
    swapped : (w x y : ℤ) → w *ℤ (x *ℤ y) ≡ w *ℤ (y *ℤ x)
    swapped w x y = by_ring (w ∷ x ∷ y ∷ []) (search quotes depth 60 fits 20000) refl

    products : (fine_products d i j).mid ≡ (fine_products d j i).mid
    products = ap (λ (z : ℤ). round_of z (2 ^ 40)) (total_same (counts d) _ _ (λ c l. swapped (counted_row d c).weight (fine_costs d c i).mid (fine_costs d c j).mid))

    own : own_weight d i j ≡ own_weight d j i
    own = elim (eqb_tells i j) [
      | inl e ↦ rw e.1 refl
      | inr n ↦ (let g : nat_eq j i ≡ false = other j i (λ z. n.1 (sym z)) in rw (n.0, g) refl)
    ]
      where
        other : (a b : ℕ) → a ≢ b → nat_eq a b ≡ false
        other a b n = elim (eqb_tells a b) [ inl z ↦ absurd (n z.1) | inr z ↦ z.0 ]

-- ---- within the radius
-- an enclosure of x / a, both over s
apart : (e : Enclosure) (x : ℤ) (s a big small : ℕ) → big ≡ s * a → small ≡ s * 2 ^ 40 → Encloses e x (pos a) →
    IsWithin (pos (big * unsigned_abs e.rad)) (pos small *ℤ x -ℤ pos big *ℤ e.mid)
apart e x s a big small g h k = scaled (2 ^ 40) e.rad e.mid s a big small g h (encloses_within k)
  where
    plain : (t m s a : ℤ) → (t *ℤ x -ℤ m *ℤ a) *ℤ s ≡ s *ℤ t *ℤ x -ℤ s *ℤ a *ℤ m
    plain t m s a = by_ring (t ∷ m ∷ s ∷ a ∷ x ∷ []) (search quotes depth 60 fits 20000) refl

    turned : (r a s : ℤ) → r *ℤ a *ℤ s ≡ s *ℤ a *ℤ r
    turned r a s = by_ring (r ∷ a ∷ s ∷ []) (search quotes depth 60 fits 20000) refl

    natural : (n : ℕ) → pos 0 ≤ℤ pos n
    natural n = omega (arith, ints)

    under : (r : ℤ) → r ≤ℤ pos (unsigned_abs r)
    under r = omega (arith, ints)

    whole : (r : ℤ) (s a : ℕ) → pos (unsigned_abs r) *ℤ pos a *ℤ pos s ≡ pos (s * a * unsigned_abs r)
    whole r s a = turned (pos (unsigned_abs r)) (pos a) (pos s)

    along : {b c y z : ℤ} → b ≡ c → y ≡ z → IsWithin b y → IsWithin c z
    along e f w = rw (← e, ← f) w

    scaled : (t : ℕ) (r m : ℤ) (s a big small : ℕ) → big ≡ s * a → small ≡ s * t → IsWithin (r *ℤ pos a) (pos t *ℤ x -ℤ m *ℤ pos a) →
        IsWithin (pos (big * unsigned_abs r)) (pos small *ℤ x -ℤ pos big *ℤ m)
    scaled t r m s a big small g h w = rw (g, h) (along (whole r s a) (plain (pos t) m (pos s) (pos a))
        (within_more _ _ _ (within_times (r *ℤ pos a) (pos t *ℤ x -ℤ m *ℤ pos a) (pos s) w)
        (mul-le-mul_right_z (pos s) (natural s) (mul-le-mul_right_z (pos a) (natural a) (under r)))))

-- ---- all
pub fine_law : FineLaw
unfolding over
fine_law d rho s = record {
  entry_count = refl;
  state_count = refl;
  row_count = refl;
  symmetric = λ i j l m. symmetric d i j;
  hessian = λ i j l m. apart _ _ (d.cost_denominator * d.row_denominator ^ 2) _ (form.hessian_scale d) _ cost_scale refl (hessian_encloses d s.plant_denominator s.inputs i j l m);
  linear = λ j i l m. apart _ _ (d.cost_denominator * d.row_denominator ^ 2) _ (form.hessian_scale d) _ cost_scale refl (linear_encloses d s.plant_denominator s.inputs j i l m);
  constant = λ j l. apart _ _ (d.cost_denominator * d.row_denominator ^ 2) _ (form.hessian_scale d) _ cost_scale refl (constant_encloses d s.plant_denominator s.inputs j l);
  plan = λ i j l m. apart (fine_by_plan d i j) _ d.limit_denominator _ (form.rows_scale d) _ refl refl
      (enclosed_as _ _ (sym (plan_number d i j s.inputs)) refl (whole_limit_encloses d none (unit j) s.plant_denominator i));
  state = λ i j l m. apart (fine_by_state d i j) _ d.limit_denominator _ (form.rows_scale d) _ refl refl
      (enclosed_as _ _ (sym (state_number d i j)) refl (whole_limit_encloses d (unit j) none s.plant_denominator i));
  bound = λ i l. rw (bound_number d i) (bounds d.limit_denominator (2 ^ 40) (d.plant_denominator ^ d.stages) (bound_at d i));
}
  where
    cost_scale : form.hessian_scale d ≡ d.cost_denominator * d.row_denominator ^ 2 * (d.plant_denominator ^ d.stages * d.plant_denominator ^ d.stages)
    cost_scale = turn d.cost_denominator d.row_denominator (d.plant_denominator ^ d.stages)
      where
        turn : (w r a : ℕ) → w * (r * a) ^ 2 ≡ w * r ^ 2 * (a * a)
        turn w r a = rw (pow-two (r * a), pow-two r) (omega arith)

    plain : (l t a b : ℤ) → l *ℤ t *ℤ (a *ℤ b) ≡ l *ℤ a *ℤ (t *ℤ b)
    plain l t a b = by_ring (l ∷ t ∷ a ∷ b ∷ []) (search quotes depth 60 fits 20000) refl

    bounds : (l t a : ℕ) (b : ℤ) → pos (l * t) *ℤ (pos a *ℤ b) ≡ pos (l * a) *ℤ (pos t *ℤ b)
    bounds l t a b = plain (pos l) (pos t) (pos a) b

-- ---- a form that a controller may be made of
pub fine_form_law : FineFormLaw
fine_form_law d s h = record {
  encloses = fine_law d (input_floor d) s;
  hessian_some = some (d.cost_denominator * d.row_denominator ^ 2) (one-le-mul s.cost_denominator (pow_positive d.row_denominator 2 s.row_denominator));
  rows_some = some d.limit_denominator s.limit_denominator;
  matrix_factor = refl;
  row_factor = turn (d.cost_denominator * d.row_denominator ^ 2) d.limit_denominator (2 ^ 40);
  class = inr (
    record {
      hessian_scale = refl;
      rows_scale = refl;
      narrow = λ i l. narrow _ _ _ _ _ (greatest_term i (entries d) (hessian_row_radius d) l) h (pow_positive d.row_denominator 2 s.row_denominator) s.rho_positive;
    },
    refl,
  );
}
  where
    some : (n : ℕ) → 1 ≤ n → 1 ≤ n * 2 ^ 40
    some n h = omega arith

    turn : (w l t : ℕ) → pos w *ℤ pos (l * t) ≡ pos l *ℤ pos (w * t)
    turn w l t = ap pos (naturals w l t)
      where
        naturals : (w l t : ℕ) → w * (l * t) ≡ l * (w * t)
        naturals w l t = omega arith

    narrow : (row top size r rho : ℕ) → row ≤ top → max size (2 ^ 86 * top) ≤ 2 ^ 126 → 1 ≤ r → 1 ≤ rho → row ≤ r * 2 ^ 40 * rho
    narrow row top size r rho h k p q = last (one-le-mul p q)
      where
        last : 1 ≤ r * rho → row ≤ r * 2 ^ 40 * rho
        last o = omega arith
