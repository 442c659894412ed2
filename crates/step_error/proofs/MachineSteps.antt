-- A step of the machine is a step of the method on its design: all numbers are brought over one denominator, 2 b times the machine's scale. For its errors b is
-- 2^40 n times what the rows of the form are over.
use Rattle.std.proofs.Common.{◌≡◌, inl, inr, ℕ, suc, ◌+◌, ◌-◌, ◌*◌, ◌^◌, ◌<◌, [], ◌∷◌, ℤ, pos, ◌+ℤ◌, ◌-ℤ◌, ◌*ℤ◌, ◌≤ℤ◌, List, length, arith, ap, sym, ◌∙◌, refl}
use Rattle.std.specs.Int.{int_max, int_min}
use Rattle.std.proofs.lemmas.Int.{ints, clamps}
use Rattle.std.proofs.lemmas.Nat.{pow-add}
use Rattle.std.proofs.Math.Nat.{mul_comm, mul-div_cancel}
use Rattle.integer_algebra.specs.Sums.{image, coimage, at}
use Rattle.integer_algebra.specs.Bounds.{clamped}
use Rattle.integer_algebra.specs.Division.{floor_of}
use Rattle.integer_algebra.proofs.OrderLaws.{le_by, mul-le-mul_left_z, mul_nonneg_z}
use Rattle.integer_algebra.proofs.VectorLaws.{image_scale, dot_scale_right}
use Rattle.integer_algebra.proofs.BoundLaws.{clamped_cases, clamped_low, clamped_high}
use Rattle.integer_algebra.proofs.PowerLaws.{pow_positive}
use Rattle.integer_algebra.proofs.Quoting.{by_ring, quotes}
use Rattle.qp_model.specs.problem.Design.{Design, entries, rows}
use Rattle.qp_model.specs.problem.Cost.{cost_scale}
use Rattle.qp_model.specs.problem.Residual.{residual, residual_scale}
use Rattle.qp_model.specs.form.Condensed.{Condensed, slope_at}
use Rattle.qp_model.specs.form.Condensing.{condensed_of}
use Rattle.qp_model.specs.form.Form.{Form}
use Rattle.qp_model.specs.machine.Controller.{Numbers, IsShaped}
use Rattle.qp_model.specs.machine.Machine.{exponent_of, lowering_of, top_of, loaded}
use Rattle.qp_model.specs.bounds.Errors.{radius_error, residual_error, error_sums_of, StepErrors}
use Rattle.qp_model.specs.bounds.Built.{IsDerivedFrom}
use Rattle.qp_model.proofs.MagnitudeLaws.{top_nonneg}
use Rattle.qp_model.proofs.ScalingLaws.{scaling_law}
use Rattle.step_error.specs.Laws.{slant, IsDesignStep}
use Rattle.step_error.specs.MachineLaws.{HasErrors, multipliers_at, raised_at, row_radius, plan_at, used_residual, machine_scale, lifted_plan}
use Rattle.step_error.proofs.MachineSums.{raised_is, multiplier_after}
use Rattle.step_error.proofs.Slopes.{within_factor, within_same}

-- ---- over one denominator
-- 2 b times the machine's scale; a plan, the multipliers and the residuals used of step k, over it
abbrev pub scale_over : Numbers → ℤ → ℤ
scale_over c b = pos 2 *ℤ b *ℤ machine_scale c

abbrev pub plan_over : Numbers → List ℤ → ℤ → ℕ → ℕ → ℤ
plan_over c xi b k j = pos 2 *ℤ b *ℤ lifted_plan c xi k j

abbrev pub multipliers_over : Numbers → List ℤ → ℤ → ℕ → ℕ → ℤ
multipliers_over c xi b k i = pos 2 *ℤ b *ℤ raised_at c xi k i

abbrev pub residuals_over : Numbers → List ℤ → ℤ → ℕ → ℕ → ℤ
residuals_over c xi b k i = pos 2 *ℤ b *ℤ (pos (2 ^ c.step_exponent) *ℤ used_residual c xi k i)

-- such a b
abbrev pub units : Form → ℕ → ℤ
units h n = pos (2 ^ 40) *ℤ (pos h.rows_scale *ℤ pos n)

-- what bounds the gradient's entries, and what the residuals used miss
abbrev pub gradient_over : Design → Form → ℕ → Numbers → StepErrors → ℕ → ℕ → ℤ
gradient_over d h r c e n j = pos 2 *ℤ (pos h.rows_scale *ℤ pos n) *ℤ
    pos (2 ^ 40 * 2 ^ c.step_exponent * e.gradient j + 2 ^ (c.fraction_bits + c.step_exponent) * radius_error (error_sums_of d h r) e.plan)

abbrev pub misses_over : Design → Form → ℕ → Numbers → StepErrors → ℕ → ℕ → ℤ
misses_over d h r c e n i = pos (2 ^ 40) *ℤ pos n *ℤ pos (2 ^ c.step_exponent) *ℤ
    pos (h.rows_scale * residual_error (error_sums_of d h r) e.plan + 2 * 2 ^ c.fraction_bits * row_radius d h e.plan i)

-- ---- factors
-- the slant of numbers times a factor
pub slant_scaled : (d : Design) (k : Condensed) (a q : ℤ) (xi u y : ℕ → ℤ) (j : ℕ) →
    slant d k (a *ℤ q) xi (λ j. a *ℤ u j) (λ i. a *ℤ y i) j ≡ a *ℤ slant d k q xi u y j
slant_scaled d k a q xi u y j = closed a q (pos (residual_scale d)) (pos (cost_scale d)) (pos (4 ^ d.grid)) (pos (2 ^ d.grid))
    (image (entries d) k.hessian u j) (slope_at d k xi j) (coimage (rows d) k.by_plan y j)
    (image_scale (entries d) k.hessian a u j) (dot_scale_right (rows d) a (λ i. k.by_plan i j) y)
  where
    closed : (a q r c f g h s y : ℤ) {m n : ℤ} → m ≡ a *ℤ h → n ≡ a *ℤ y →
        r *ℤ (f *ℤ m +ℤ (g *ℤ (a *ℤ q)) *ℤ s) +ℤ c *ℤ (g *ℤ n) ≡ a *ℤ (r *ℤ (f *ℤ h +ℤ (g *ℤ q) *ℤ s) +ℤ c *ℤ (g *ℤ y))
    closed a q r c f g h s y e i = rw (e, i) (by_ring (a ∷ q ∷ r ∷ c ∷ f ∷ g ∷ h ∷ s ∷ y ∷ []) (search quotes depth 60 fits 20000) refl)

-- the nearest number of a box times a factor
clamped_scaled : (g top b : ℤ) → pos 0 ≤ℤ g → pos 0 ≤ℤ top → clamped (g *ℤ top) (g *ℤ b) ≡ g *ℤ clamped top b
clamped_scaled g top b pg pt = elim (clamped_cases top b pt) [
  | inl e ↦ middle (g *ℤ top) (g *ℤ b) (g *ℤ clamped top b) (ap (λ (z : ℤ). g *ℤ z) e)
      (mul_nonneg_z g (clamped top b) pg (clamped_low top b pt)) (mul-le-mul_left_z g pg (clamped_high top b pt))
  | inr s ↦ elim s [
    | inl e ↦ above (g *ℤ top) (g *ℤ b) (g *ℤ clamped top b) (ap (λ (z : ℤ). g *ℤ z) e.0) (mul_nonneg_z g top pg pt) (mul-le-mul_left_z g pg e.1)
    | inr e ↦ below (g *ℤ top) (g *ℤ b) (g *ℤ clamped top b) (ap (λ (z : ℤ). g *ℤ z) e.0 ∙ none g) (mul_nonneg_z g top pg pt) (under g b pg e.1)
  ]
]
  where
    none : (g : ℤ) → g *ℤ pos 0 ≡ pos 0
    none g = by_ring (g ∷ []) (search quotes depth 60 fits 20000) refl

    under : (g b : ℤ) → pos 0 ≤ℤ g → b ≤ℤ pos 0 → (g *ℤ b) ≤ℤ pos 0
    under g b p h = le_by (mul-le-mul_left_z g p h) (by_ring (g ∷ b ∷ []) (search quotes depth 60 fits 20000) refl)

    middle : (t b m : ℤ) → m ≡ b → pos 0 ≤ℤ m → m ≤ℤ t → clamped t b ≡ m
    middle t b m e h k = omega (arith, ints, clamps)

    above : (t b m : ℤ) → m ≡ t → pos 0 ≤ℤ t → t ≤ℤ b → clamped t b ≡ m
    above t b m e h k = omega (arith, ints, clamps)

    below : (t b m : ℤ) → m ≡ pos 0 → pos 0 ≤ℤ t → b ≤ℤ pos 0 → clamped t b ≡ m
    below t b m e h k = omega (arith, ints, clamps)

-- ---- one step
-- the number of rows that the machine has
pub rows_inside : (d : Design) (h : Form) (r : ℕ) (c : Numbers) → IsDerivedFrom d h r c → IsShaped c → (i : ℕ) → i < rows d → i < length c.bounds
rows_inside d h r c made shaped i l = omega (arith, l, made.sizes.rows, shaped.bounds)

-- the greatest multiplier of a row, raised, is that of all rows
top_raised : (d : Design) (h : Form) (r : ℕ) (c : Numbers) → IsDerivedFrom d h r c → (i : ℕ) → pos (2 ^ lowering_of c i) *ℤ top_of c i ≡ pos (2 * r) *ℤ machine_scale c
top_raised d h r c made i =
    let power = 2 ^ lowering_of c i in
    let rest = 2 ^ (c.fraction_bits + c.step_exponent - lowering_of c i) in
    let split : 2 ^ (c.fraction_bits + c.step_exponent) ≡ power * rest =
    (let e : c.fraction_bits + c.step_exponent ≡ lowering_of c i + (c.fraction_bits + c.step_exponent - lowering_of c i) = omega arith in
    ap (λ (n : ℕ). 2 ^ n) e ∙ pow-add 2 (lowering_of c i) (c.fraction_bits + c.step_exponent - lowering_of c i)) in
    exact c.clamp power (2 * r) rest (pow_positive 2 (lowering_of c i) (omega arith)) split made.clamp
  where
    exact : (z : ℤ) (p a n : ℕ) {m : ℕ} → 0 < p → m ≡ p * n → z ≡ pos (a * m) → pos p *ℤ floor_of z p ≡ pos (a * m)
    exact z p a n h e k =
        let whole : a * (p * n) ≡ a * n * p = omega arith in
        rw (k, e, whole, mul-div_cancel (a * n) h) (ap pos (mul_comm p (a * n)))

-- the next multiplier is the moved one, kept in the box
moves : (d : Design) (h : Form) (r : ℕ) (c : Numbers) (xi : List ℤ) (k : ℕ) → IsDerivedFrom d h r c → IsShaped c → (i : ℕ) → i < rows d →
    raised_at c xi (suc k) i ≡ clamped (pos (2 * r) *ℤ machine_scale c) (raised_at c xi k i +ℤ pos (2 ^ lowering_of c i) *ℤ used_residual c xi k i)
moves d h r c xi k made shaped i l =
    let inside = rows_inside d h r c made shaped i l in
    raised_is c (multipliers_at c xi (suc k)) i inside
    ∙ ap (λ (z : ℤ). pos (2 ^ lowering_of c i) *ℤ z) (multiplier_after c (loaded c xi) k i inside)
    ∙ turned (pos (2 ^ lowering_of c i)) (top_of c i) (at (multipliers_at c xi k) i) (used_residual c xi k i) (pos (2 * r) *ℤ machine_scale c) (raised_at c xi k i)
    (omega (arith, ints)) (top_nonneg c i (rw made.clamp (omega (arith, ints)))) (top_raised d h r c made i) (raised_is c (multipliers_at c xi k) i inside)
  where
    turned : (g a y v t b : ℤ) → pos 0 ≤ℤ g → pos 0 ≤ℤ a → g *ℤ a ≡ t → b ≡ g *ℤ y → g *ℤ int_min a (int_max (y +ℤ v) (pos 0)) ≡ clamped t (b +ℤ g *ℤ v)
    turned g a y v t b pg pa e k =
        rw (← e, k, ← (spread g y v)) (ap (λ (z : ℤ). g *ℤ z) (kept a (y +ℤ v)) ∙ sym (clamped_scaled g a (y +ℤ v) pg pa))
      where
        kept : (a z : ℤ) → int_min a (int_max z (pos 0)) ≡ clamped a z
        kept a z = omega (arith, ints, clamps)

        spread : (g y v : ℤ) → g *ℤ (y +ℤ v) ≡ g *ℤ y +ℤ g *ℤ v
        spread g y v = by_ring (g ∷ y ∷ v ∷ []) (search quotes depth 60 fits 20000) refl

-- its step and what raises it come to the greatest step exponent
steps_are : (d : Design) (h : Form) (r : ℕ) (c : Numbers) → IsDerivedFrom d h r c → (i : ℕ) → i < rows d →
    pos (2 ^ c.step_exponent) ≡ pos (2 ^ exponent_of c i) *ℤ pos (2 ^ lowering_of c i)
steps_are d h r c made i l =
    let e : c.step_exponent ≡ exponent_of c i + lowering_of c i = omega (arith, made.exponents.bounded i l) in
    ap pos (ap (λ (n : ℕ). 2 ^ n) e ∙ pow-add 2 (exponent_of c i) (lowering_of c i))

-- the residuals of the lifted plan
lifted_residual : (d : Design) (c : Numbers) (xi : List ℤ) (b : ℤ) (k i : ℕ) →
    residual d (scale_over c b) (at xi) (plan_over c xi b k) i ≡
    pos 2 *ℤ b *ℤ (pos (2 ^ c.step_exponent) *ℤ residual d (pos (2 ^ c.fraction_bits)) (at xi) (at (plan_at c xi k)) i)
lifted_residual d c xi b k i =
    (scaling_law d (pos 2 *ℤ b) (machine_scale c) (at xi) (lifted_plan c xi k)).residuals i
    ∙ ap (λ (q : ℤ). pos 2 *ℤ b *ℤ residual d q (at xi) (lifted_plan c xi k) i) (split c.fraction_bits c.step_exponent)
    ∙ ap (λ (z : ℤ). pos 2 *ℤ b *ℤ z) ((scaling_law d (pos (2 ^ c.step_exponent)) (pos (2 ^ c.fraction_bits)) (at xi) (at (plan_at c xi k))).residuals i)
  where
    split : (f s : ℕ) → pos (2 ^ (f + s)) ≡ pos (2 ^ s) *ℤ pos (2 ^ f)
    split f s = ap pos (pow-add 2 f s ∙ mul_comm (2 ^ f) (2 ^ s))

pub step_is : (d : Design) (h : Form) (r : ℕ) (c : Numbers) (xi : List ℤ) (n k : ℕ) (e : StepErrors) → IsDerivedFrom d h r c → IsShaped c → HasErrors d h r c xi k e →
    IsDesignStep d (condensed_of d) (exponent_of c) (pos (2 * r) *ℤ scale_over c (units h n)) (scale_over c (units h n)) (at xi)
    (plan_over c xi (units h n) k) (multipliers_over c xi (units h n) k) (residuals_over c xi (units h n) k) (multipliers_over c xi (units h n) (suc k))
    (gradient_over d h r c e n) (misses_over d h r c e n)
step_is d h r c xi n k e made shaped errors = record {
  box = record {
    low = λ i l. mul_nonneg_z (pos 2 *ℤ units h n) (raised_at c xi k i) (twice (units h n) some) (errors.multipliers.low i l);
    high = λ i l. le_by (mul-le-mul_left_z (pos 2 *ℤ units h n) (twice (units h n) some) (errors.multipliers.high i l))
        (lifted (units h n) (raised_at c xi k i) (pos (2 * r)) (machine_scale c));
  };
  moved = λ i l. moved (units h n) (pos (2 ^ exponent_of c i)) (pos (2 ^ lowering_of c i)) (raised_at c xi k i) (used_residual c xi k i) (pos (2 * r)) (machine_scale c) some
      (omega (arith, ints)) (omega (arith, ints)) (steps_are d h r c made i l) (moves d h r c xi k made shaped i l);
  gradient_error = λ j l. within_same
      (placed (pos h.rows_scale *ℤ pos n) (pos (cost_scale d)) (pos (residual_scale d))
      (pos (2 ^ 40 * 2 ^ c.step_exponent * e.gradient j + 2 ^ (c.fraction_bits + c.step_exponent) * radius_error (error_sums_of d h r) e.plan)))
      (brought (pos (2 ^ 40)) (pos h.rows_scale *ℤ pos n) (slant d (condensed_of d) (machine_scale c) (at xi) (lifted_plan c xi k) (raised_at c xi k) j)
      (slant_scaled d (condensed_of d) (pos 2 *ℤ units h n) (machine_scale c) (at xi) (lifted_plan c xi k) (raised_at c xi k) j))
      (within_factor (pos 2 *ℤ (pos h.rows_scale *ℤ pos n)) _ _ (omega (arith, ints)) (errors.gradient j l));
  row_error = λ i l. within_same
      (placed_row (pos (2 ^ 40) *ℤ pos n *ℤ pos (2 ^ c.step_exponent)) (pos (residual_scale d))
      (pos (h.rows_scale * residual_error (error_sums_of d h r) e.plan + 2 * 2 ^ c.fraction_bits * row_radius d h e.plan i)))
      (used (pos (2 ^ 40)) (pos n) (pos h.rows_scale) (pos (2 ^ c.step_exponent)) (pos (residual_scale d)) (used_residual c xi k i)
      (residual d (pos (2 ^ c.fraction_bits)) (at xi) (at (plan_at c xi k)) i) (lifted_residual d c xi (units h n) k i))
      (within_factor (pos (2 ^ 40) *ℤ pos n *ℤ pos (2 ^ c.step_exponent)) _ _ (omega (arith, ints)) (errors.residuals i l));
}
  where
    some : pos 0 ≤ℤ units h n
    some = omega (arith, ints)

    twice : (b : ℤ) → pos 0 ≤ℤ b → pos 0 ≤ℤ (pos 2 *ℤ b)
    twice b h = omega (arith, ints, h)

    lifted : (b y t m : ℤ) → t *ℤ (pos 2 *ℤ b *ℤ m) +ℤ (pos 2 *ℤ b) *ℤ y ≡ pos 2 *ℤ b *ℤ y +ℤ (pos 2 *ℤ b) *ℤ (t *ℤ m)
    lifted b y t m = by_ring (b ∷ y ∷ t ∷ m ∷ []) (search quotes depth 60 fits 20000) refl

    moved : (b s g y v t m : ℤ) {w z : ℤ} → pos 0 ≤ℤ b → pos 0 ≤ℤ s → pos 0 ≤ℤ (t *ℤ m) → w ≡ s *ℤ g → z ≡ clamped (t *ℤ m) (y +ℤ g *ℤ v) →
        s *ℤ (pos 2 *ℤ b *ℤ z) ≡ clamped (s *ℤ (t *ℤ (pos 2 *ℤ b *ℤ m))) (s *ℤ (pos 2 *ℤ b *ℤ y) +ℤ pos 2 *ℤ b *ℤ (w *ℤ v))
    moved b s g y v t m {w} {z} pb ps pt k e =
        rw (k, top, inner) (left z ∙ ap (λ (x : ℤ). pos 2 *ℤ b *ℤ s *ℤ x) e
        ∙ sym (clamped_scaled (pos 2 *ℤ b *ℤ s) (t *ℤ m) (y +ℤ g *ℤ v) (mul_nonneg_z (pos 2 *ℤ b) s (twice b pb) ps) pt))
      where
        top : s *ℤ (t *ℤ (pos 2 *ℤ b *ℤ m)) ≡ pos 2 *ℤ b *ℤ s *ℤ (t *ℤ m)
        top = by_ring (b ∷ s ∷ t ∷ m ∷ []) (search quotes depth 60 fits 20000) refl

        inner : s *ℤ (pos 2 *ℤ b *ℤ y) +ℤ pos 2 *ℤ b *ℤ (s *ℤ g *ℤ v) ≡ pos 2 *ℤ b *ℤ s *ℤ (y +ℤ g *ℤ v)
        inner = by_ring (b ∷ s ∷ g ∷ y ∷ v ∷ []) (search quotes depth 60 fits 20000) refl

        left : (z : ℤ) → s *ℤ (pos 2 *ℤ b *ℤ z) ≡ pos 2 *ℤ b *ℤ s *ℤ z
        left z = by_ring (b ∷ s ∷ z ∷ []) (search quotes depth 60 fits 20000) refl

    placed : (b c r e : ℤ) → pos 2 *ℤ b *ℤ (c *ℤ r *ℤ e) ≡ c *ℤ r *ℤ (pos 2 *ℤ b *ℤ e)
    placed b c r e = by_ring (b ∷ c ∷ r ∷ e ∷ []) (search quotes depth 60 fits 20000) refl

    brought : (p b s : ℤ) {z : ℤ} → z ≡ pos 2 *ℤ (p *ℤ b) *ℤ s → pos 2 *ℤ b *ℤ (p *ℤ s) ≡ z
    brought p b s e = rw e (by_ring (p ∷ b ∷ s ∷ []) (search quotes depth 60 fits 20000) refl)

    placed_row : (b r e : ℤ) → b *ℤ (r *ℤ e) ≡ r *ℤ (b *ℤ e)
    placed_row b r e = by_ring (b ∷ r ∷ e ∷ []) (search quotes depth 60 fits 20000) refl

    used : (p n g s r v e : ℤ) {f : ℤ} → f ≡ pos 2 *ℤ (p *ℤ (g *ℤ n)) *ℤ (s *ℤ e) →
        p *ℤ n *ℤ s *ℤ (pos 2 *ℤ g *ℤ (r *ℤ v -ℤ e)) ≡ r *ℤ (pos 2 *ℤ (p *ℤ (g *ℤ n)) *ℤ (s *ℤ v)) -ℤ f
    used p n g s r v e k = rw k (by_ring (p ∷ n ∷ g ∷ s ∷ r ∷ v ∷ e ∷ []) (search quotes depth 60 fits 20000) refl)
