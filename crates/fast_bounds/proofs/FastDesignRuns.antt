-- A run of the accelerated machine of a controller that is made for a design, in the design's words.
use Rattle.std.proofs.Common.{◌≡◌, ℕ, suc, ◌+◌, ◌-◌, ◌*◌, ◌^◌, ◌<◌, ◌≤◌, [], ◌∷◌, ℤ, pos, negsuc, ◌+ℤ◌, ◌-ℤ◌, ◌*ℤ◌, ◌≤ℤ◌, ◌<ℤ◌, List, length, unsigned_abs, arith, ap, sym, ◌∙◌, refl}
use Rattle.std.proofs.lemmas.Int.{ints}
use Rattle.std.proofs.lemmas.List.{get_or-replicate}
use Rattle.std.proofs.Math.Nat.{mul_comm, mul-le-mul_left}
use Rattle.std.specs.Int.Signed.{≤ℤ_refl}
use Rattle.integer_algebra.specs.Sums.{total, dot, square, at}
use Rattle.integer_algebra.specs.Division.{floor_of}
use Rattle.integer_algebra.proofs.OrderLaws.{le_by, pos_positive, mul-le-mul_left_z, mul_nonneg_z, mul_pos_z, cancel-le_z}
use Rattle.integer_algebra.proofs.RingLaws.{mul_assoc_z}
use Rattle.integer_algebra.proofs.SumLaws.{total_same, total_scale}
use Rattle.integer_algebra.proofs.DivisionLaws.{le-mul-ceil_div}
use Rattle.integer_algebra.proofs.Quoting.{by_ring, quotes}
use Rattle.qp_model.specs.method.Objective.{twice_cost}
use Rattle.qp_model.specs.method.Dual.{InBox, Program}
use Rattle.qp_model.specs.problem.Design.{Design, entries, rows}
use Rattle.qp_model.specs.problem.Sound.{IsSound}
use Rattle.qp_model.specs.problem.Cost.{cost, cost_scale}
use Rattle.qp_model.specs.problem.Residual.{residual, residual_scale, IsFeasible}
use Rattle.qp_model.specs.problem.Parts.{design_of}
use Rattle.qp_model.specs.form.Form.{Form, IsFormFor}
use Rattle.qp_model.specs.form.Condensed.{IsCondensed}
use Rattle.qp_model.specs.form.Condensing.{condensed_of}
use Rattle.qp_model.specs.form.Quantities.{input_floor}
use Rattle.qp_model.specs.machine.Controller.{Numbers, plan_length, IsShaped}
use Rattle.qp_model.specs.machine.Machine.{IsAdmissible, loaded, exponent_of, lowering_of, plan_of, row_sum}
use Rattle.qp_model.specs.bounds.Built.{IsDerivedFrom}
use Rattle.qp_model.specs.bounds.Errors.{error_sums_of, gradient_squares, first_cost, radius_error, residual_error, StepErrors, stated_errors, epsilon}
use Rattle.qp_model.specs.declared.design_parts.DesignParts.{DesignParts}
use Rattle.qp_model.proofs.AbsoluteLaws.{floor_nonneg}
use Rattle.qp_model.proofs.CostLaws.{condensing}
use Rattle.qp_model.proofs.CurvatureLaws.{objective, cost_is}
use Rattle.qp_model.proofs.ScalingLaws.{scaling_law}
use Rattle.qp_model.proofs.SoundLaws.{sound}
use Rattle.step_error.specs.Laws.{slant}
use Rattle.step_error.specs.MachineLaws.{machine_scale, row_radius}
use Rattle.step_error.proofs.DesignLaws.{program, conditioned, residual_is, slant_is, rows_are}
use Rattle.step_error.proofs.MachineRuns.{squares_scaled}
use Rattle.step_error.proofs.MachineScales.{scale_is, power_positive, most_over, errors_by, over, share, cost_over, feasible_over, box_over, dot_scaled}
use Rattle.step_error.proofs.MachineSteps.{units, gradient_over, misses_over, slant_scaled}
use Rattle.step_error.proofs.Slopes.{within_factor, within_same}
use Rattle.step_error.proofs.StepErrors.{slant_same}
use Rattle.fast_machine.specs.Fast.{HasEvenErrors}
use Rattle.fast_machine.proofs.WeightLaws.{carry_law}
use Rattle.overflow_check.specs.FastMachine.{all_weights, step_weight, mean_at, means_of, mean_divisor, fast_after, fast_plan, fast_denominator}
use Rattle.overflow_check.specs.FastController.{with_last_version, IsFastController}
use Rattle.fast_machine.specs.FastErrors.{fast_scale, made_after, plan_factor, fast_plan_over, fast_means_over, fast_residuals_over, step_scale, mean_misses, HasFastErrors, IsFastRunOf, fast_average_over}
use Rattle.fast_machine.proofs.FastRuns.{mean_item, mean_up, means_long, means_within, ready_law}
use Rattle.fast_machine.proofs.FastMachineRuns.{machine_even}
use Rattle.fast_machine.proofs.WeightSums.{twice_weights}
use Rattle.step_error.specs.CarriedErrors.{carry_of, mean_error, with_means, cost_of_run, run_sums_of}
use Rattle.fast_bounds.specs.FastDesign.{HasErrorsAt, IsPlanOf, IsFastRunFor, HasFastRunErrors, FastCarriedLaw, FastRunBoundFor, FastDesignRunLaw, FastStatedRunLaw}
use Rattle.fast_bounds.proofs.MeanErrors.{misses_le}
use Rattle.fast_bounds.proofs.PlanErrors.{admissible, plan_errors}

-- ---- the means of a step
means_are : (c : Numbers) (xi : List ℤ) (k : ℕ) → (made_after c xi (suc k)).means ≡ means_of c k (made_after c xi k).multipliers (made_after c xi k).reached
unfolding fast_after
means_are c xi k = refl

plan_is : (c : Numbers) (xi : List ℤ) (k : ℕ) → (made_after c xi (suc k)).plan ≡ plan_of c (loaded c xi) (made_after c xi (suc k)).means
unfolding fast_after
plan_is c xi k = refl

-- they lie in 0 .. clamp
means_low : (c : Numbers) (xi : List ℤ) (k i : ℕ) → IsFastController c → IsAdmissible c xi → i < length c.bounds → pos 0 ≤ℤ at (made_after c xi (suc k)).means i
means_low c xi k i sound grid l =
    let made = made_after c xi k in
    rw (means_are c xi k, mean_item c k made.multipliers made.reached i l)
    (mul_nonneg_z (mean_at k made.multipliers made.reached i) (pos (2 ^ lowering_of c i))
    (floor_nonneg (at made.reached i +ℤ pos (step_weight k) *ℤ at made.multipliers i) (mean_divisor k) (mean_up c k made.multipliers made.reached i (ready_law c xi sound grid k).rows l).low) (omega (arith, ints)))

means_high : (c : Numbers) (xi : List ℤ) (k i : ℕ) → IsFastController c → IsAdmissible c xi → i < length c.bounds → at (made_after c xi (suc k)).means i ≤ℤ c.clamp
means_high c xi k i sound grid l =
    let made = made_after c xi k in
    high (at (made_after c xi (suc k)).means i) c.clamp sound.form.sized.rest.clamp_low
    (rw (means_are c xi k) (rw (get_or-replicate (length c.bounds) i (unsigned_abs c.clamp) 0 l) at
    ((means_within c k made.multipliers made.reached sound.form.sized.rest.clamp_low (ready_law c xi sound grid k).rows).each i)))
  where
    high : (z top : ℤ) → pos 0 ≤ℤ top → unsigned_abs z ≤ unsigned_abs top → z ≤ℤ top
    high z top h l = omega (arith, ints, h, l)

-- the shapes don't speak of the version
shaped_of : (c : Numbers) → IsShaped (with_last_version c) → IsShaped c
shaped_of c s = record {
  exponents = s.exponents;
  low = s.low;
  high = s.high;
  state_gains = s.state_gains;
  offsets = s.offsets;
  dual_gains = s.dual_gains;
  plan_rows = s.plan_rows;
  state_rows = s.state_rows;
  bounds = s.bounds;
}

plan_for : (p : DesignParts) (h : Form) (r : ℕ) (c : Numbers) (xi : List ℤ) → IsFastRunFor p h r c xi → (k : ℕ) → IsPlanOf p h r c xi (made_after c xi (suc k)).means
plan_for p h r c xi run k =
    let rest = run.controller.form.sized.rest in
    let grid = admissible (design_of p) c xi run.made.sizes run.long run.inside in
    record {
      design = run.design;
      form = run.form;
      shaped = shaped_of c rest.shaped;
      bits = rest.fraction_bits.0;
      made = run.made;
      long = run.long;
      inside = run.inside;
      multiplier_count = ap length (means_are c xi k) ∙ means_long c k (made_after c xi k).multipliers (made_after c xi k).reached ∙ rest.shaped.bounds;
      box = record {
        low = λ i l. means_low c xi k i run.controller grid (row_in i l);
        high = λ i l. rw (← run.made.clamp) (means_high c xi k i run.controller grid (row_in i l));
      };
    }
  where
    row_in : (i : ℕ) → i < rows (design_of p) → i < length c.bounds
    row_in i l = omega (arith, l, run.controller.form.sized.rest.shaped.bounds, run.made.sizes.rows)

pub fast_carried : FastCarriedLaw
fast_carried = record {
  stated = λ p h r c xi run k l. plan_errors.stated p h r c xi (made_after c xi (suc k)).means (plan_for p h r c xi run k);
  real = λ p h r c xi run k l. plan_errors.real p h r c xi (made_after c xi (suc k)).means (plan_for p h r c xi run k);
}

-- ---- a step over one denominator
abbrev program_at : Design → List ℤ → Program
program_at d xi = program d (condensed_of d) (input_floor d) (at xi)

abbrev grown : Form → Numbers → StepErrors → StepErrors
grown h c e = with_means h c.step_exponent c.exponents e

-- a residual at the machine's plan over that
lifted : (d : Design) (c : Numbers) (xi : List ℤ) (b : ℤ) (k i : ℕ) → residual d (fast_scale c b) (at xi) (fast_plan_over c xi b k) i ≡
    plan_factor c b *ℤ residual d (pos (2 ^ c.fraction_bits)) (at xi) (at (plan_of c (loaded c xi) (made_after c xi (suc k)).means)) i
lifted d c xi b k i =
    ap (λ (q : ℤ). residual d q (at xi) (fast_plan_over c xi b k) i) (split b c.fraction_bits c.step_exponent)
    ∙ (scaling_law d (plan_factor c b) (pos (2 ^ c.fraction_bits)) (at xi) (at (made_after c xi (suc k)).plan)).residuals i
    ∙ ap (λ (xs : List ℤ). plan_factor c b *ℤ residual d (pos (2 ^ c.fraction_bits)) (at xi) (at xs) i) (plan_is c xi k)
  where
    split : (b : ℤ) (f s : ℕ) → pos 2 *ℤ b *ℤ pos (2 ^ (f + s)) ≡ (pos 2 *ℤ b *ℤ pos (2 ^ s)) *ℤ pos (2 ^ f)
    split b f s = rw (scale_is f s) (by_ring (b ∷ pos (2 ^ f) ∷ pos (2 ^ s) ∷ []) (search quotes depth 60 fits 20000) refl)

module _ (d : Design) (h : Form) (r : ℕ) (c : Numbers) (xi : List ℤ) (n k : ℕ) (e : StepErrors) (condensed : IsCondensed d (condensed_of d)) (form : IsFormFor d h)
    (errors : HasErrorsAt d h r c xi (made_after c xi (suc k)).means e) where
  abbrev b : ℤ
  b = units h n

  abbrev means : List ℤ
  means = (made_after c xi (suc k)).means

  abbrev plan : List ℤ
  plan = plan_of c (loaded c xi) means

  slant_over : (j : ℕ) → slant d (condensed_of d) (fast_scale c b) (at xi) (fast_plan_over c xi b k) (fast_means_over c xi b k) j ≡
      pos 2 *ℤ b *ℤ slant d (condensed_of d) (machine_scale c) (at xi) (λ j. pos (2 ^ c.step_exponent) *ℤ at plan j) (at means) j
  slant_over j =
      slant_same d (condensed_of d) (fast_scale c b) (at xi) (fast_plan_over c xi b k) (λ j. pos 2 *ℤ b *ℤ (pos (2 ^ c.step_exponent) *ℤ at plan j)) (fast_means_over c xi b k) j
      (λ i l. ap (λ (xs : List ℤ). plan_factor c b *ℤ at xs i) (plan_is c xi k) ∙ mul_assoc_z (pos 2 *ℤ b) (pos (2 ^ c.step_exponent)) (at plan i))
      ∙ slant_scaled d (condensed_of d) (pos 2 *ℤ b) (machine_scale c) (at xi) (λ j. pos (2 ^ c.step_exponent) *ℤ at plan j) (at means) j

  residuals_are : (i : ℕ) → fast_residuals_over c xi b k i ≡ plan_factor c b *ℤ floor_of (row_sum c (loaded c xi) plan i) (2 ^ c.fraction_bits)
  residuals_are i = ap (λ (xs : List ℤ). plan_factor c b *ℤ floor_of (row_sum c (loaded c xi) xs i) (2 ^ c.fraction_bits)) (plan_is c xi k)

  has_errors : HasFastErrors (program_at d xi) c xi b k (gradient_over d h r c e n) (gradient_over d h r c (grown h c e) n) (misses_over d h r c e n)
  has_errors = record {
    gradient_error = λ j l. within_same
        (placed (pos h.rows_scale *ℤ pos n) (pos (cost_scale d)) (pos (residual_scale d))
        (pos (2 ^ 40 * 2 ^ c.step_exponent * e.gradient j + 2 ^ (c.fraction_bits + c.step_exponent) * radius_error (error_sums_of d h r) e.plan)))
        (brought (pos (2 ^ 40)) (pos h.rows_scale *ℤ pos n) (slant d (condensed_of d) (machine_scale c) (at xi) (λ j. pos (2 ^ c.step_exponent) *ℤ at plan j) (at means) j)
        (slant_is d (condensed_of d) (input_floor d) (fast_scale c b) (at xi) (fast_plan_over c xi b k) (fast_means_over c xi b k) j ∙ slant_over j))
        (within_factor (pos 2 *ℤ (pos h.rows_scale *ℤ pos n)) _ _ (omega (arith, ints)) (errors.gradient j l));
    mean_error = λ j l. more (pos (residual_scale d)) (pos 2 *ℤ (pos h.rows_scale *ℤ pos n))
        (pos (2 ^ 40 * 2 ^ c.step_exponent * e.gradient j + 2 ^ (c.fraction_bits + c.step_exponent) * radius_error (error_sums_of d h r) e.plan))
        (pos (2 ^ 40 * 2 ^ c.step_exponent * mean_error h c.step_exponent c.exponents j)) (mean_misses (program_at d xi) c b j)
        (summed (2 ^ 40 * 2 ^ c.step_exponent) (e.gradient j) (mean_error h c.step_exponent c.exponents j) (2 ^ (c.fraction_bits + c.step_exponent) * radius_error (error_sums_of d h r) e.plan))
        (misses_le d h c (at xi) form j l n);
    row_error = λ i l. within_same
        (placed_row (pos (2 ^ 40) *ℤ pos n *ℤ pos (2 ^ c.step_exponent)) (pos (residual_scale d))
        (pos (h.rows_scale * residual_error (error_sums_of d h r) e.plan + 2 * 2 ^ c.fraction_bits * row_radius d h e.plan i)))
        (used (pos (2 ^ 40)) (pos n) (pos h.rows_scale) (pos (2 ^ c.step_exponent)) (pos (residual_scale d)) (floor_of (row_sum c (loaded c xi) plan i) (2 ^ c.fraction_bits))
        (residual d (pos (2 ^ c.fraction_bits)) (at xi) (at plan) i) (residuals_are i)
        (residual_is d (condensed_of d) condensed (fast_scale c b) (at xi) (fast_plan_over c xi b k) i l ∙ lifted d c xi b k i))
        (within_factor (pos (2 ^ 40) *ℤ pos n *ℤ pos (2 ^ c.step_exponent)) _ _ (omega (arith, ints)) (errors.residuals i l));
  }
    where
      placed : (b c r e : ℤ) → pos 2 *ℤ b *ℤ (c *ℤ r *ℤ e) ≡ c *ℤ r *ℤ (pos 2 *ℤ b *ℤ e)
      placed b c r e = by_ring (b ∷ c ∷ r ∷ e ∷ []) (search quotes depth 60 fits 20000) refl

      brought : (p b s : ℤ) {z : ℤ} → z ≡ pos 2 *ℤ (p *ℤ b) *ℤ s → pos 2 *ℤ b *ℤ (p *ℤ s) ≡ z
      brought p b s e = rw e (by_ring (p ∷ b ∷ s ∷ []) (search quotes depth 60 fits 20000) refl)

      summed : (a e m q : ℕ) → pos (a * (e + m) + q) ≡ pos (a * e + q) +ℤ pos (a * m)
      summed a e m q = ap pos (let z : a * (e + m) + q ≡ a * e + q + a * m = omega arith in z)

      more : (r b p q x : ℤ) {w : ℤ} → w ≡ p +ℤ q → x ≤ℤ (r *ℤ (b *ℤ q)) → (r *ℤ (b *ℤ p) +ℤ x) ≤ℤ (r *ℤ (b *ℤ w))
      more r b p q x e h = rw e (le_by h (by_ring (r ∷ b ∷ p ∷ q ∷ x ∷ []) (search quotes depth 60 fits 20000) refl))

      placed_row : (b r e : ℤ) → b *ℤ (r *ℤ e) ≡ r *ℤ (b *ℤ e)
      placed_row b r e = by_ring (b ∷ r ∷ e ∷ []) (search quotes depth 60 fits 20000) refl

      used : (p n g s r v e : ℤ) {w f : ℤ} → w ≡ pos 2 *ℤ (p *ℤ (g *ℤ n)) *ℤ s *ℤ v → f ≡ pos 2 *ℤ (p *ℤ (g *ℤ n)) *ℤ s *ℤ e →
          p *ℤ n *ℤ s *ℤ (pos 2 *ℤ g *ℤ (r *ℤ v -ℤ e)) ≡ r *ℤ w -ℤ f
      used p n g s r v e a k = rw (a, k) (by_ring (p ∷ n ∷ g ∷ s ∷ r ∷ v ∷ e ∷ []) (search quotes depth 60 fits 20000) refl)

-- ---- a run
run_for : (d : Design) (h : Form) (r : ℕ) (c : Numbers) (xi : List ℤ) → IsDerivedFrom d h r c → IsFastController c → IsAdmissible c xi → IsFastRunOf (program_at d xi) r c xi
run_for d h r c xi made controller grid = let shaped = controller.form.sized.rest.shaped in record {
  controller = controller;
  grid = grid;
  rows = sym made.sizes.rows ∙ sym shaped.bounds;
  entries = sym (shaped.offsets ∙ plan_length_is);
  clamp = made.clamp;
}
  where
    plan_length_is : plan_length c ≡ entries d
    plan_length_is = let e = made.sizes.inputs in let f = made.sizes.stages in rw (e, f) (mul_comm d.inputs d.stages)

module _ (d : Design) (h : Form) (r : ℕ) (c : Numbers) (e : StepErrors) (most n : ℕ) (well : IsSound d (input_floor d)) (form : IsFormFor d h)
    (cheap : cost_of_run d h r c.fraction_bits c.steps (grown h c e) ≤ most) where
  abbrev squared : ℤ
  squared = total (entries d) (λ j. square (gradient_over d h r c (grown h c e) n j))

  abbrev missed : ℤ
  missed = pos (2 * r) *ℤ fast_scale c (units h n) *ℤ total (rows d) (misses_over d h r c e n)

  has_even : (xi : List ℤ) → HasEvenErrors (program_at d xi) (pos (2 * r) *ℤ fast_scale c (units h n)) (fast_scale c (units h n)) (most_over h c n most) squared missed
      (pos (carry_of c.steps)) c.steps (λ k. gradient_over d h r c (grown h c e) n) (λ k. misses_over d h r c e n)
  has_even xi = record {
    gradients = λ k l. ≤ℤ_refl squared;
    rows = λ k l. ≤ℤ_refl missed;
    carry = carry_law c.steps (pos (carry_of c.steps))
        (as_whole (le-mul-ceil_div ((c.steps + 1) * (c.steps + 5)) (3 * (c.steps + 3)) (omega arith)));
    together = grouped (pos d.cost_denominator) (pos (carry_of c.steps)) (pos (input_floor d)) (pos (2 * r) *ℤ fast_scale c (units h n)) squared
        (total (rows d) (misses_over d h r c e n))
        (errors_by d h r c (grown h c e) most n (d.cost_denominator * carry_of c.steps) (carry_of c.steps * first_cost d (grown h c e).gradient) well form
        (times d.cost_denominator (carry_of c.steps) (gradient_squares d (grown h c e).gradient) (input_floor d) (first_cost d (grown h c e).gradient)
        (le-mul-ceil_div (d.cost_denominator * gradient_squares d (grown h c e).gradient) (2 * input_floor d) (let o = well.rho_positive in omega (arith, o)))) cheap);
  }
    where
      as_whole : {m n : ℕ} → m ≤ n → pos m ≤ℤ pos n
      as_whole {m} {n} h = omega (arith, ints, h)

      times : (w j s o f : ℕ) → w * s ≤ 2 * o * f → w * j * s ≤ 2 * o * (j * f)
      times w j s o f h = omega (arith, mul-le-mul_left j h)

      grouped : (w j o t s m : ℤ) {x : ℤ} → (w *ℤ j *ℤ s +ℤ pos 2 *ℤ o *ℤ t *ℤ m) ≤ℤ x → (w *ℤ j *ℤ s +ℤ pos 2 *ℤ o *ℤ (t *ℤ m)) ≤ℤ x
      grouped w j o t s m h = rw (← mul_assoc_z (pos 2 *ℤ o) t m) h

-- the bound of the run, at numbers alone: a are all its weights
run_closed : (rs cs o a f s p g n z cost dots least squares : ℤ) {m average broken target lengths quarters double whole steps : ℤ} → m ≡ f *ℤ s →
    average ≡ pos 2 *ℤ (square (pos 2 *ℤ (p *ℤ (g *ℤ n)) *ℤ s) *ℤ cost) → broken ≡ pos 2 *ℤ (p *ℤ g) *ℤ m *ℤ (pos 2 *ℤ (p *ℤ (g *ℤ n)) *ℤ s *ℤ dots) →
    target ≡ pos 2 *ℤ (square (pos 2 *ℤ (p *ℤ g) *ℤ m) *ℤ least) → lengths ≡ square (pos 2 *ℤ (p *ℤ g) *ℤ m) *ℤ squares → quarters ≡ pos 4 *ℤ squares →
    double ≡ pos 2 *ℤ p → whole ≡ a *ℤ f → steps ≡ pos 2 *ℤ a → pos 0 <ℤ o → pos 0 <ℤ p → pos 0 <ℤ g → pos 0 <ℤ s → pos 0 ≤ℤ a →
    (rs *ℤ o *ℤ average +ℤ pos 2 *ℤ cs *ℤ o *ℤ a *ℤ broken) ≤ℤ
    (rs *ℤ o *ℤ square a *ℤ target +ℤ pos 2 *ℤ cs *ℤ rs *ℤ o *ℤ a *ℤ lengths +ℤ
    cs *ℤ rs *ℤ a *ℤ (pos 2 *ℤ o *ℤ a *ℤ (pos 2 *ℤ (p *ℤ (g *ℤ n)) *ℤ m) *ℤ (z *ℤ (pos 2 *ℤ (f *ℤ (s *ℤ (g *ℤ n))))))) →
    (double *ℤ steps *ℤ rs *ℤ square n *ℤ cost +ℤ double *ℤ steps *ℤ cs *ℤ whole *ℤ n *ℤ dots) ≤ℤ
    (double *ℤ steps *ℤ rs *ℤ square whole *ℤ least +ℤ p *ℤ cs *ℤ rs *ℤ square whole *ℤ quarters +ℤ
    pos 2 *ℤ steps *ℤ cs *ℤ rs *ℤ square n *ℤ square whole *ℤ z)
run_closed rs cs o a f s p g n z cost dots least squares hm ha hb ht hl hq hd hw hk po pp pg ps pa bound =
    let plain = rw (ha, hb, ht, hl, hm) at bound in
    let cut = cancel-le_z (pos 8 *ℤ p *ℤ ((g *ℤ g) *ℤ (s *ℤ s)) *ℤ o)
    (p *ℤ rs *ℤ square n *ℤ cost +ℤ p *ℤ cs *ℤ (a *ℤ f) *ℤ n *ℤ dots)
    (p *ℤ rs *ℤ square (a *ℤ f) *ℤ least +ℤ p *ℤ cs *ℤ rs *ℤ a *ℤ square f *ℤ squares +ℤ cs *ℤ rs *ℤ square n *ℤ square (a *ℤ f) *ℤ z)
    (mul_pos_z (pos 8 *ℤ p *ℤ ((g *ℤ g) *ℤ (s *ℤ s))) o
    (mul_pos_z (pos 8 *ℤ p) ((g *ℤ g) *ℤ (s *ℤ s)) (mul_pos_z (pos 8) p (omega (arith, ints)) pp) (mul_pos_z (g *ℤ g) (s *ℤ s) (mul_pos_z g g pg pg) (mul_pos_z s s ps ps))) po)
    (le_by plain (by_ring (rs ∷ cs ∷ o ∷ a ∷ f ∷ s ∷ p ∷ g ∷ n ∷ z ∷ cost ∷ dots ∷ least ∷ squares ∷ []) (search quotes depth 90 fits 20000) refl)) in
    rw (hd, hw, hk, hq) (le_by (mul-le-mul_left_z (pos 4 *ℤ a) (mul_nonneg_z (pos 4) a (omega (arith, ints)) pa) cut)
    (by_ring (rs ∷ cs ∷ a ∷ f ∷ p ∷ n ∷ z ∷ cost ∷ dots ∷ least ∷ squares ∷ []) (search quotes depth 90 fits 20000) refl))

-- what the sums of the plans are times
abbrev part : Form → Numbers → ℕ → ℤ
part h c n = plan_factor c (units h n)

all_over_is : (h : Form) (c : Numbers) (n : ℕ) → pos (all_weights c.steps) *ℤ fast_scale c (units h n) ≡ part h c n *ℤ pos (fast_denominator c)
all_over_is h c n = closed (pos (all_weights c.steps)) (units h n) (pos (2 ^ c.fraction_bits)) (pos (2 ^ c.step_exponent)) (scale_is c.fraction_bits c.step_exponent)
  where
    closed : (k b f s : ℤ) {m : ℤ} → m ≡ f *ℤ s → k *ℤ (pos 2 *ℤ b *ℤ m) ≡ pos 2 *ℤ b *ℤ s *ℤ (k *ℤ f)
    closed k b f s e = rw e (by_ring (k ∷ b ∷ f ∷ s ∷ []) (search quotes depth 60 fits 20000) refl)

cost_averaged : (d : Design) (h : Form) (c : Numbers) (xi : List ℤ) (n : ℕ) → IsCondensed d (condensed_of d) →
    twice_cost (objective d (condensed_of d) (at xi)) (pos (all_weights c.steps) *ℤ fast_scale c (units h n)) (fast_average_over c xi (units h n)) ≡
    pos 2 *ℤ (square (part h c n) *ℤ cost d (pos (fast_denominator c)) (at xi) (at (fast_plan c xi)))
cost_averaged d h c xi n condensed =
    cost_is d (condensed_of d) condensed (pos (all_weights c.steps) *ℤ fast_scale c (units h n)) (at xi) (fast_average_over c xi (units h n))
    ∙ ap (λ (q : ℤ). pos 2 *ℤ cost d q (at xi) (fast_average_over c xi (units h n))) (all_over_is h c n)
    ∙ ap (λ (z : ℤ). pos 2 *ℤ z) (scaling_law d (part h c n) (pos (fast_denominator c)) (at xi) (at (fast_plan c xi))).costs

residual_averaged : (d : Design) (h : Form) (c : Numbers) (xi : List ℤ) (n i : ℕ) →
    residual d (pos (all_weights c.steps) *ℤ fast_scale c (units h n)) (at xi) (fast_average_over c xi (units h n)) i ≡
    part h c n *ℤ residual d (pos (fast_denominator c)) (at xi) (at (fast_plan c xi)) i
residual_averaged d h c xi n i =
    ap (λ (q : ℤ). residual d q (at xi) (fast_average_over c xi (units h n)) i) (all_over_is h c n)
    ∙ (scaling_law d (part h c n) (pos (fast_denominator c)) (at xi) (at (fast_plan c xi))).residuals i

-- powers of exponents that are greater by two
quarters_are : (m : ℕ) (e : ℕ → ℕ) (w : ℕ → ℤ) → total m (λ i. pos (2 ^ (e i + 2)) *ℤ square (w i)) ≡ pos 4 *ℤ total m (λ i. pos (2 ^ e i) *ℤ square (w i))
quarters_are m e w = total_same m _ _ (λ i l. one (e i) (square (w i))) ∙ total_scale m (pos 4) (λ i. pos (2 ^ e i) *ℤ square (w i))
  where
    one : (e : ℕ) (x : ℤ) → pos (2 ^ (e + 2)) *ℤ x ≡ pos 4 *ℤ (pos (2 ^ e) *ℤ x)
    one e x = rw (scale_is e 2) (by_ring (pos (2 ^ e) ∷ x ∷ []) (search quotes depth 60 fits 20000) refl)

run_bound : (d : Design) (h : Form) (r : ℕ) (c : Numbers) (xi : List ℤ) (n : ℕ) (e : StepErrors) (most : ℕ) → IsSound d (input_floor d) → IsCondensed d (condensed_of d) →
    IsFormFor d h → IsDerivedFrom d h r c → IsFastController c → IsAdmissible c xi → HasFastRunErrors d h r c xi e →
    cost_of_run d h r c.fraction_bits c.steps (grown h c e) ≤ most →
    (t w : ℕ → ℤ) → IsFeasible d (pos n) (at xi) t → InBox (rows d) (pos (2 * r) *ℤ pos n) w → FastRunBoundFor d c xi (pos n) t w most
run_bound d h r c xi n e most well condensed form made controller grid errors cheap t w feasible box =
    run_closed (pos (residual_scale d)) (pos (cost_scale d)) (pos (input_floor d)) (pos (all_weights c.steps)) (pos (2 ^ c.fraction_bits)) (pos (2 ^ c.step_exponent))
    (pos (2 ^ 40)) (pos h.rows_scale) (pos n) (pos most) (cost d (pos (fast_denominator c)) (at xi) (at (fast_plan c xi)))
    (dot (rows d) w rest) (cost d (pos n) (at xi) t) (total (rows d) (λ i. pos (2 ^ exponent_of c i) *ℤ square (w i)))
    (scale_is c.fraction_bits c.step_exponent) (cost_averaged d h c xi n condensed)
    (rows_are d (condensed_of d) condensed (input_floor d) (pos (all_weights c.steps) *ℤ fast_scale c (units h n)) (at xi) (fast_average_over c xi (units h n)) (λ i. share h c *ℤ w i)
    ∙ dot_scaled (rows d) (share h c) (part h c n) w rest (λ i l. residual_averaged d h c xi n i))
    (cost_is d (condensed_of d) condensed (over h c n) (at xi) (λ j. share h c *ℤ t j) ∙ ap (λ (z : ℤ). pos 2 *ℤ z) (cost_over d h c n (at xi) t))
    (squares_scaled (rows d) (step_scale c) (share h c) w) (quarters_are (rows d) (exponent_of c) w) refl refl (ap pos (sym (twice_weights c.steps)))
    (pos_positive (input_floor d) well.rho_positive) (power_positive 40) (pos_positive h.rows_scale form.rows_some) (power_positive c.step_exponent) (omega (arith, ints))
    (machine_even (program_at d xi) (λ i. pos (2 ^ (c.step_exponent - exponent_of c i))) (pos (2 ^ c.step_exponent)) r c xi (units h n) (most_over h c n most)
    (squared d h r c e most n well form cheap) (missed d h r c e most n well form cheap) (pos (carry_of c.steps))
    (conditioned d (condensed_of d) (input_floor d) c.step_exponent (exponent_of c) well condensed made.exponents (at xi)) (run_for d h r c xi made controller grid) (omega (arith, ints))
    (λ k. gradient_over d h r c e n) (λ k. gradient_over d h r c (grown h c e) n) (λ k. misses_over d h r c e n)
    (λ k l. has_errors d h r c xi n k e condensed form (errors k l)) (has_even d h r c e most n well form cheap xi)
    (λ i. share h c *ℤ w i) (box_over (rows d) h c n (pos (2 * r)) w box) (λ j. share h c *ℤ t j)
    (λ i l. rw (residual_is d (condensed_of d) condensed (over h c n) (at xi) (λ j. share h c *ℤ t j) i l) (feasible_over d h c n (at xi) t feasible i l)))
  where
    rest : ℕ → ℤ
    rest = residual d (pos (fast_denominator c)) (at xi) (at (fast_plan c xi))

pub fast_design_run : FastDesignRunLaw
fast_design_run p h r c xi run e most errors cheap (pos n) t w positive feasible box =
    run_bound (design_of p) h r c xi n e most (sound p run.design) (condensing (design_of p) run.design.inputs.0) run.form run.made run.controller
    (admissible (design_of p) c xi run.made.sizes run.long run.inside) errors cheap t w feasible box
fast_design_run p h r c xi run e most errors cheap (negsuc n) t w positive feasible box = absurd (omega (arith, ints, positive))

pub fast_stated_run : FastStatedRunLaw
fast_stated_run p h r c xi run =
    fast_design_run p h r c xi run (stated_errors (design_of p) h r c.fraction_bits)
    (epsilon (run_sums_of (design_of p) h r c.steps c.step_exponent c.exponents) c.fraction_bits) (fast_carried.stated p h r c xi run) (omega arith)
