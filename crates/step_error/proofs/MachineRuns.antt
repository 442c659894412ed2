-- A whole run of the machine, from the errors of its steps.
use Rattle.std.proofs.Common.{◌≡◌, ℕ, ◌*◌, ◌^◌, ◌<◌, ◌≤◌, [], ◌∷◌, ℤ, pos, negsuc, ◌+ℤ◌, ◌*ℤ◌, ◌≤ℤ◌, ◌<ℤ◌, List, arith, ap, sym, ◌∙◌, refl}
use Rattle.std.proofs.lemmas.Int.{ints}
use Rattle.std.proofs.Math.IntN.{*ℤ-zero}
use mathlib.Core.Path.{fun_ext}
use Rattle.integer_algebra.specs.Sums.{total, dot, square, at}
use Rattle.qp_model.specs.method.Dual.{InBox, averaged}
use Rattle.integer_algebra.proofs.OrderLaws.{le_by, pos_positive, mul-le-mul_left_z, mul_pos_z, cancel-le_z}
use Rattle.integer_algebra.proofs.RingLaws.{mul_assoc_z}
use Rattle.integer_algebra.proofs.SumLaws.{total_same, total_scale}
use Rattle.integer_algebra.proofs.Quoting.{by_ring, quotes}
use Rattle.qp_model.specs.problem.Design.{Design, rows}
use Rattle.qp_model.specs.problem.Cost.{cost, cost_scale}
use Rattle.qp_model.specs.problem.Residual.{residual, residual_scale, IsFeasible}
use Rattle.qp_model.specs.problem.Sound.{IsSound}
use Rattle.qp_model.specs.problem.Parts.{design_of}
use Rattle.qp_model.specs.form.Form.{Form, IsFormFor}
use Rattle.qp_model.specs.form.Condensing.{condensed_of}
use Rattle.qp_model.specs.form.Condensed.{IsCondensed}
use Rattle.qp_model.specs.form.Quantities.{input_floor}
use Rattle.qp_model.specs.machine.Controller.{Numbers, IsShaped}
use Rattle.qp_model.specs.machine.Machine.{exponent_of, loaded, average_denominator, averaged_plan}
use Rattle.qp_model.specs.bounds.Built.{IsDerivedFrom}
use Rattle.qp_model.specs.bounds.Errors.{error_sums_of, epsilon, StepErrors, stated_errors, cost_of_errors}
use Rattle.qp_model.proofs.CostLaws.{condensing}
use Rattle.qp_model.proofs.ScalingLaws.{scaling_law}
use Rattle.qp_model.proofs.SoundLaws.{sound}
use Rattle.step_error.specs.Laws.{IsDesignRun}
use Rattle.step_error.specs.MachineLaws.{HasErrors, plan_at, MachineRunBound, MachineRunLaw, StatedRunLaw}
use Rattle.step_error.proofs.DesignLaws.{design_run_law}
use Rattle.step_error.proofs.MachineSums.{first_multiplier, sum_is}
use Rattle.step_error.proofs.MachineErrors.{carried}
use Rattle.step_error.proofs.MachineSteps.{rows_inside, units, plan_over, multipliers_over, residuals_over, gradient_over, misses_over, step_is}
use Rattle.step_error.proofs.MachineScales.{scale_is, power_positive, most_over, errors_are, over, share}
use Rattle.step_error.proofs.MachineScales.{cost_over, feasible_over, box_over, dot_scaled}

-- ---- the averaged plan
-- what the sums of the plans are times
abbrev part : Form → Numbers → ℕ → ℤ
part h c n = pos 2 *ℤ units h n *ℤ pos (2 ^ c.step_exponent)

averaged_is : (h : Form) (c : Numbers) (xi : List ℤ) (n : ℕ) →
    averaged c.steps (plan_over c xi (units h n)) ≡ (λ j. part h c n *ℤ at (averaged_plan c xi) j)
averaged_is h c xi n = fun_ext (λ j. (
    total_same c.steps _ _ (λ k l. sym (mul_assoc_z (pos 2 *ℤ units h n) (pos (2 ^ c.step_exponent)) (at (plan_at c xi k) j)))
    ∙ total_scale c.steps (part h c n) (λ k. at (plan_at c xi k) j)
    ∙ ap (λ (z : ℤ). part h c n *ℤ z) (sym (sum_is c (loaded c xi) c.steps j))))

all_over_is : (h : Form) (c : Numbers) (n : ℕ) → pos c.steps *ℤ over h c n ≡ part h c n *ℤ pos (average_denominator c)
all_over_is h c n = closed (pos c.steps) (units h n) (pos (2 ^ c.fraction_bits)) (pos (2 ^ c.step_exponent)) (scale_is c.fraction_bits c.step_exponent)
  where
    closed : (k b f s : ℤ) {m : ℤ} → m ≡ f *ℤ s → k *ℤ (pos 2 *ℤ b *ℤ m) ≡ pos 2 *ℤ b *ℤ s *ℤ (k *ℤ f)
    closed k b f s e = rw e (by_ring (k ∷ b ∷ f ∷ s ∷ []) (search quotes depth 60 fits 20000) refl)

run_is : (d : Design) (h : Form) (r : ℕ) (c : Numbers) (xi : List ℤ) (n : ℕ) (e : StepErrors) (most : ℕ) → IsSound d (input_floor d) → IsFormFor d h →
    IsDerivedFrom d h r c → IsShaped c → ((k : ℕ) → k < c.steps → HasErrors d h r c xi k e) → cost_of_errors d h r c.fraction_bits e ≤ most →
    IsDesignRun d (condensed_of d) (input_floor d) (exponent_of c) (pos (2 * r) *ℤ over h c n) (most_over h c n most) (over h c n) c.steps (at xi)
    (plan_over c xi (units h n)) (multipliers_over c xi (units h n)) (residuals_over c xi (units h n))
    (λ k. gradient_over d h r c e n) (λ k. misses_over d h r c e n)
run_is d h r c xi n e most well form made shaped errors cheap = record {
  starts = λ i l. ap (λ (z : ℤ). pos 2 *ℤ units h n *ℤ z) (first_multiplier c (loaded c xi) i (rows_inside d h r c made shaped i l)) ∙ *ℤ-zero (pos 2 *ℤ units h n);
  steps = λ k l. step_is d h r c xi n k e made shaped (errors k l);
  errors = λ k l. errors_are d h r c e most n well form cheap;
}

-- the bound of the run, at numbers alone: what a run of the method has, times the steps and over 4 * 2^40 * 4^s * rows_scale^2 * rho
run_closed : (rs cs o k f s p g n z cost dots least squares : ℤ) {m whole average broken target lengths double : ℤ} → m ≡ f *ℤ s →
    average ≡ square (pos 2 *ℤ (p *ℤ (g *ℤ n)) *ℤ s) *ℤ cost → broken ≡ pos 2 *ℤ (p *ℤ g) *ℤ m *ℤ (pos 2 *ℤ (p *ℤ (g *ℤ n)) *ℤ s *ℤ dots) →
    target ≡ square (pos 2 *ℤ (p *ℤ g) *ℤ m) *ℤ least → lengths ≡ square (pos 2 *ℤ (p *ℤ g) *ℤ m) *ℤ squares → double ≡ pos 2 *ℤ p →
    whole ≡ k *ℤ f → pos 0 <ℤ o → pos 0 <ℤ p → pos 0 <ℤ g → pos 0 <ℤ s → pos 0 ≤ℤ k →
    (rs *ℤ o *ℤ (pos 2 *ℤ average) +ℤ pos 2 *ℤ cs *ℤ o *ℤ k *ℤ broken) ≤ℤ
    (rs *ℤ o *ℤ square k *ℤ (pos 2 *ℤ target) +ℤ cs *ℤ rs *ℤ o *ℤ k *ℤ lengths +ℤ
    pos 2 *ℤ cs *ℤ rs *ℤ o *ℤ square k *ℤ (pos 2 *ℤ (p *ℤ (g *ℤ n)) *ℤ m) *ℤ (z *ℤ (pos 2 *ℤ (f *ℤ (s *ℤ (g *ℤ n)))))) →
    (double *ℤ k *ℤ rs *ℤ square n *ℤ cost +ℤ double *ℤ k *ℤ cs *ℤ whole *ℤ n *ℤ dots) ≤ℤ
    (double *ℤ k *ℤ rs *ℤ square whole *ℤ least +ℤ p *ℤ cs *ℤ rs *ℤ square whole *ℤ squares +ℤ
    pos 2 *ℤ k *ℤ cs *ℤ rs *ℤ square n *ℤ square whole *ℤ z)
run_closed rs cs o k f s p g n z cost dots least squares hm ha hb ht hl hd hw po pp pg ps pk bound =
    let plain = rw (ha, hb, ht, hl, hm) at bound in
    let cut = cancel-le_z (pos 4 *ℤ p *ℤ ((g *ℤ g) *ℤ (s *ℤ s)) *ℤ o)
    (pos 2 *ℤ p *ℤ rs *ℤ square n *ℤ cost +ℤ pos 2 *ℤ p *ℤ cs *ℤ (k *ℤ f) *ℤ n *ℤ dots)
    (pos 2 *ℤ p *ℤ rs *ℤ square (k *ℤ f) *ℤ least +ℤ p *ℤ cs *ℤ rs *ℤ k *ℤ square f *ℤ squares +ℤ pos 2 *ℤ cs *ℤ rs *ℤ square n *ℤ square (k *ℤ f) *ℤ z)
    (mul_pos_z (pos 4 *ℤ p *ℤ ((g *ℤ g) *ℤ (s *ℤ s))) o
    (mul_pos_z (pos 4 *ℤ p) ((g *ℤ g) *ℤ (s *ℤ s)) (mul_pos_z (pos 4) p (omega (arith, ints)) pp) (mul_pos_z (g *ℤ g) (s *ℤ s) (mul_pos_z g g pg pg) (mul_pos_z s s ps ps))) po)
    (le_by plain (by_ring (rs ∷ cs ∷ o ∷ k ∷ f ∷ s ∷ p ∷ g ∷ n ∷ z ∷ cost ∷ dots ∷ least ∷ squares ∷ []) (search quotes depth 90 fits 20000) refl)) in
    rw (hd, hw) (le_by (mul-le-mul_left_z k pk cut)
    (by_ring (rs ∷ cs ∷ k ∷ f ∷ p ∷ n ∷ z ∷ cost ∷ dots ∷ least ∷ squares ∷ []) (search quotes depth 90 fits 20000) refl))

-- the sums that the bound speaks of, over the denominator of the run
cost_averaged : (d : Design) (h : Form) (c : Numbers) (xi : List ℤ) (n : ℕ) →
    cost d (pos c.steps *ℤ over h c n) (at xi) (averaged c.steps (plan_over c xi (units h n))) ≡
    square (part h c n) *ℤ cost d (pos (average_denominator c)) (at xi) (at (averaged_plan c xi))
cost_averaged d h c xi n =
    ap (λ (u : ℕ → ℤ). cost d (pos c.steps *ℤ over h c n) (at xi) u) (averaged_is h c xi n)
    ∙ ap (λ (q : ℤ). cost d q (at xi) (λ j. part h c n *ℤ at (averaged_plan c xi) j)) (all_over_is h c n)
    ∙ (scaling_law d (part h c n) (pos (average_denominator c)) (at xi) (at (averaged_plan c xi))).costs

residual_averaged : (d : Design) (h : Form) (c : Numbers) (xi : List ℤ) (n i : ℕ) →
    residual d (pos c.steps *ℤ over h c n) (at xi) (averaged c.steps (plan_over c xi (units h n))) i ≡
    part h c n *ℤ residual d (pos (average_denominator c)) (at xi) (at (averaged_plan c xi)) i
residual_averaged d h c xi n i =
    ap (λ (u : ℕ → ℤ). residual d (pos c.steps *ℤ over h c n) (at xi) u i) (averaged_is h c xi n)
    ∙ ap (λ (q : ℤ). residual d q (at xi) (λ j. part h c n *ℤ at (averaged_plan c xi) j) i) (all_over_is h c n)
    ∙ (scaling_law d (part h c n) (pos (average_denominator c)) (at xi) (at (averaged_plan c xi))).residuals i

-- a sum of squares of multiples
pub squares_scaled : (m : ℕ) (s : ℕ → ℤ) (a : ℤ) (w : ℕ → ℤ) → total m (λ i. s i *ℤ square (a *ℤ w i)) ≡ square a *ℤ total m (λ i. s i *ℤ square (w i))
squares_scaled m s a w = total_same m _ _ (λ i l. apart (s i) a (w i)) ∙ total_scale m (square a) (λ i. s i *ℤ square (w i))
  where
    apart : (s a w : ℤ) → s *ℤ square (a *ℤ w) ≡ square a *ℤ (s *ℤ square w)
    apart s a w = by_ring (s ∷ a ∷ w ∷ []) (search quotes depth 60 fits 20000) refl

run_bound : (d : Design) (h : Form) (r : ℕ) (c : Numbers) (xi : List ℤ) (n : ℕ) (e : StepErrors) (most : ℕ) → IsSound d (input_floor d) → IsCondensed d (condensed_of d) →
    IsFormFor d h → IsDerivedFrom d h r c → IsShaped c → ((k : ℕ) → k < c.steps → HasErrors d h r c xi k e) → cost_of_errors d h r c.fraction_bits e ≤ most →
    (t w : ℕ → ℤ) → IsFeasible d (pos n) (at xi) t → InBox (rows d) (pos (2 * r) *ℤ pos n) w →
    MachineRunBound d c xi (pos n) t w most
run_bound d h r c xi n e most well condensed form made shaped errors cheap t w feasible box =
    run_closed (pos (residual_scale d)) (pos (cost_scale d)) (pos (input_floor d)) (pos c.steps) (pos (2 ^ c.fraction_bits)) (pos (2 ^ c.step_exponent))
    (pos (2 ^ 40)) (pos h.rows_scale) (pos n) (pos most) (cost d (pos (average_denominator c)) (at xi) (at (averaged_plan c xi)))
    (dot (rows d) w rest) (cost d (pos n) (at xi) t) (total (rows d) (λ i. pos (2 ^ exponent_of c i) *ℤ square (w i)))
    (scale_is c.fraction_bits c.step_exponent) (cost_averaged d h c xi n)
    (dot_scaled (rows d) (share h c) (part h c n) w rest (λ i l. residual_averaged d h c xi n i))
    (cost_over d h c n (at xi) t) (squares_scaled (rows d) (λ i. pos (2 ^ exponent_of c i)) (share h c) w) refl refl
    (pos_positive (input_floor d) well.rho_positive) (power_positive 40) (pos_positive h.rows_scale form.rows_some) (power_positive c.step_exponent) (omega (arith, ints))
    (design_run_law d (condensed_of d) (input_floor d) c.step_exponent (exponent_of c) (pos (2 * r) *ℤ over h c n) (most_over h c n most) (over h c n) c.steps
    well condensed made.exponents (at xi)
    (plan_over c xi (units h n)) (multipliers_over c xi (units h n)) (residuals_over c xi (units h n))
    (λ k. gradient_over d h r c e n) (λ k. misses_over d h r c e n)
    (run_is d h r c xi n e most well form made shaped errors cheap) (λ i. share h c *ℤ w i) (box_over (rows d) h c n (pos (2 * r)) w box)
    (λ j. share h c *ℤ t j) (feasible_over d h c n (at xi) t feasible))
  where
    rest : ℕ → ℤ
    rest = residual d (pos (average_denominator c)) (at xi) (at (averaged_plan c xi))

pub machine_run : MachineRunLaw
machine_run p h r c xi run e most errors cheap (pos n) t w positive feasible box =
    run_bound (design_of p) h r c xi n e most (sound p run.design) (condensing (design_of p) run.design.inputs.0) run.form run.made run.controller.form.sized.shaped
    errors cheap t w feasible box
machine_run p h r c xi run e most errors cheap (negsuc n) t w positive feasible box = absurd (omega (arith, ints, positive))

-- by the stated errors
pub stated_run : StatedRunLaw
stated_run p h r c xi run =
    machine_run p h r c xi run (stated_errors (design_of p) h r c.fraction_bits) (epsilon (error_sums_of (design_of p) h r) c.fraction_bits) (λ k l. carried p h r c xi run k) (omega arith)
