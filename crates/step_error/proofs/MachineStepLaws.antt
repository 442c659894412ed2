-- One step of the machine, from its errors.
use Rattle.std.proofs.Common.{◌≡◌, ℕ, suc, ◌*◌, ◌^◌, ◌≤◌, [], ◌∷◌, ℤ, pos, negsuc, ◌+ℤ◌, ◌-ℤ◌, ◌*ℤ◌, ◌≤ℤ◌, ◌<ℤ◌, List, arith, ◌∙◌, refl}
use Rattle.std.proofs.lemmas.Int.{ints}
use Rattle.integer_algebra.specs.Sums.{total, dot, square, at}
use Rattle.qp_model.specs.method.Dual.{InBox, distance}
use Rattle.integer_algebra.proofs.OrderLaws.{le_by, pos_positive, mul-le-mul_left_z, mul_pos_z, cancel-le_z, add-le-add_z}
use Rattle.integer_algebra.proofs.SumLaws.{total_same, total_scale}
use Rattle.integer_algebra.proofs.Quoting.{by_ring, quotes}
use Rattle.qp_model.specs.problem.Design.{Design, entries, rows}
use Rattle.qp_model.specs.problem.Cost.{cost, cost_scale}
use Rattle.qp_model.specs.problem.Residual.{residual, residual_scale, IsFeasible}
use Rattle.qp_model.specs.problem.Scaling.{IsScaledPlan}
use Rattle.qp_model.specs.problem.Sound.{IsSound}
use Rattle.qp_model.specs.problem.Parts.{design_of}
use Rattle.qp_model.specs.form.Form.{Form, IsFormFor}
use Rattle.qp_model.specs.machine.Machine.{exponent_of}
use Rattle.qp_model.specs.form.Condensing.{condensed_of}
use Rattle.qp_model.specs.form.Condensed.{IsCondensed}
use Rattle.qp_model.specs.form.Quantities.{input_floor}
use Rattle.qp_model.specs.machine.Controller.{Numbers, IsShaped}
use Rattle.qp_model.specs.bounds.Built.{IsDerivedFrom}
use Rattle.qp_model.specs.bounds.Errors.{error_sums_of, epsilon, StepErrors, stated_errors, cost_of_errors}
use Rattle.qp_model.proofs.CostLaws.{condensing}
use Rattle.qp_model.proofs.ScalingLaws.{scaling_law}
use Rattle.qp_model.proofs.SoundLaws.{sound}
use Rattle.step_error.specs.MachineLaws.{HasErrors, raised_at, machine_scale, lifted_plan, MachineStepBound, MachineStepLaw, StatedStepLaw}
use Rattle.step_error.proofs.DesignLaws.{design_step_law}
use Rattle.step_error.proofs.MachineErrors.{carried}
use Rattle.step_error.proofs.MachineSteps.{units, plan_over, multipliers_over, residuals_over, gradient_over, misses_over, step_is}
use Rattle.step_error.proofs.MachineScales.{scale_is, power_positive, errors_are, over, share, cost_over, feasible_over, box_over, dot_scaled}

-- the distance of multipliers over n from those of the machine
distance_is : (m : ℕ) (h : Form) (c : Numbers) (n : ℕ) (w y : ℕ → ℤ) →
    distance m (λ i. pos (2 ^ exponent_of c i)) (λ i. share h c *ℤ w i) (λ i. pos 2 *ℤ units h n *ℤ y i) ≡
    square (pos 2 *ℤ (pos (2 ^ 40) *ℤ pos h.rows_scale)) *ℤ total m (λ i. pos (2 ^ exponent_of c i) *ℤ square (machine_scale c *ℤ w i -ℤ pos n *ℤ y i))
distance_is m h c n w y = total_same m _ _ (λ i l. apart (pos (2 ^ exponent_of c i)) (pos (2 ^ 40)) (pos h.rows_scale) (pos n) (machine_scale c) (w i) (y i))
    ∙ total_scale m (square (pos 2 *ℤ (pos (2 ^ 40) *ℤ pos h.rows_scale))) (λ i. pos (2 ^ exponent_of c i) *ℤ square (machine_scale c *ℤ w i -ℤ pos n *ℤ y i))
  where
    apart : (s p g n m w y : ℤ) → s *ℤ square (pos 2 *ℤ (p *ℤ g) *ℤ m *ℤ w -ℤ pos 2 *ℤ (p *ℤ (g *ℤ n)) *ℤ y) ≡ square (pos 2 *ℤ (p *ℤ g)) *ℤ (s *ℤ square (m *ℤ w -ℤ n *ℤ y))
    apart s p g n m w y = by_ring (s ∷ p ∷ g ∷ n ∷ m ∷ w ∷ y ∷ []) (search quotes depth 60 fits 20000) refl

-- the bound of the step, at numbers alone: what a step of the method has, over 4 * 2^40 * rows_scale^2 * rho
step_closed : (rs cs o e top f s p g n z cost dots least before later squares betas : ℤ) {m plan broken target far near double : ℤ} → m ≡ f *ℤ s →
    plan ≡ square (pos 2 *ℤ (p *ℤ (g *ℤ n))) *ℤ cost → broken ≡ pos 2 *ℤ (p *ℤ g) *ℤ m *ℤ (pos 2 *ℤ (p *ℤ (g *ℤ n)) *ℤ dots) →
    target ≡ square (pos 2 *ℤ (p *ℤ g) *ℤ m) *ℤ least →
    far ≡ square (pos 2 *ℤ (p *ℤ g)) *ℤ before → near ≡ square (pos 2 *ℤ (p *ℤ g)) *ℤ later → double ≡ pos 2 *ℤ p →
    pos 0 <ℤ o → pos 0 <ℤ p → pos 0 <ℤ g → pos 0 ≤ℤ (cs *ℤ rs) →
    (e *ℤ squares +ℤ pos 2 *ℤ o *ℤ top *ℤ betas) ≤ℤ (pos 2 *ℤ o *ℤ (pos 2 *ℤ (p *ℤ (g *ℤ n)) *ℤ m) *ℤ (z *ℤ (pos 2 *ℤ (f *ℤ (s *ℤ (g *ℤ n)))))) →
    (rs *ℤ o *ℤ (pos 2 *ℤ plan) +ℤ pos 2 *ℤ cs *ℤ o *ℤ broken) ≤ℤ
    (rs *ℤ o *ℤ (pos 2 *ℤ target) +ℤ cs *ℤ rs *ℤ o *ℤ (far -ℤ near) +ℤ cs *ℤ rs *ℤ e *ℤ squares +ℤ pos 2 *ℤ cs *ℤ rs *ℤ o *ℤ top *ℤ betas) →
    (double *ℤ rs *ℤ square n *ℤ cost +ℤ double *ℤ cs *ℤ m *ℤ n *ℤ dots) ≤ℤ
    (double *ℤ rs *ℤ square m *ℤ least +ℤ p *ℤ cs *ℤ rs *ℤ (before -ℤ later) +ℤ pos 2 *ℤ cs *ℤ rs *ℤ square n *ℤ square m *ℤ z)
step_closed rs cs o e top f s p g n z cost dots least before later squares betas hm ha hb ht hf hn hd po pp pg pc small bound =
    let plain = rw (ha, hb, ht, hf, hn, hm) at bound in
    let errors = rw hm at small in
    rw (hd, hm) (cancel-le_z (pos 4 *ℤ p *ℤ (g *ℤ g) *ℤ o)
    (pos 2 *ℤ p *ℤ rs *ℤ square n *ℤ cost +ℤ pos 2 *ℤ p *ℤ cs *ℤ (f *ℤ s) *ℤ n *ℤ dots)
    (pos 2 *ℤ p *ℤ rs *ℤ square (f *ℤ s) *ℤ least +ℤ p *ℤ cs *ℤ rs *ℤ (before -ℤ later) +ℤ pos 2 *ℤ cs *ℤ rs *ℤ square n *ℤ square (f *ℤ s) *ℤ z)
    (mul_pos_z (pos 4 *ℤ p *ℤ (g *ℤ g)) o (mul_pos_z (pos 4 *ℤ p) (g *ℤ g) (mul_pos_z (pos 4) p (omega (arith, ints)) pp) (mul_pos_z g g pg pg)) po)
    (le_by (add-le-add_z plain (mul-le-mul_left_z (cs *ℤ rs) pc errors))
    (by_ring (rs ∷ cs ∷ o ∷ e ∷ top ∷ f ∷ s ∷ p ∷ g ∷ n ∷ z ∷ cost ∷ dots ∷ least ∷ before ∷ later ∷ squares ∷ betas ∷ [])
    (search quotes depth 90 fits 20000) refl)))

step_bound : (d : Design) (h : Form) (r : ℕ) (c : Numbers) (xi : List ℤ) (k n : ℕ) (e : StepErrors) (most : ℕ) → IsSound d (input_floor d) → IsCondensed d (condensed_of d) →
    IsFormFor d h → IsDerivedFrom d h r c → IsShaped c → HasErrors d h r c xi k e → cost_of_errors d h r c.fraction_bits e ≤ most →
    (t w : ℕ → ℤ) → IsFeasible d (pos n) (at xi) t → InBox (rows d) (pos (2 * r) *ℤ pos n) w →
    MachineStepBound d c xi k (pos n) t w most
step_bound d h r c xi k n e most well condensed form made shaped errors cheap t w feasible box =
    step_closed (pos (residual_scale d)) (pos (cost_scale d)) (pos (input_floor d)) (pos d.cost_denominator) (pos (2 * r) *ℤ over h c n)
    (pos (2 ^ c.fraction_bits)) (pos (2 ^ c.step_exponent)) (pos (2 ^ 40)) (pos h.rows_scale) (pos n) (pos most)
    (cost d (machine_scale c) (at xi) (lifted_plan c xi k)) (dot (rows d) w rest) (cost d (pos n) (at xi) t)
    (total (rows d) (λ i. pos (2 ^ exponent_of c i) *ℤ square (machine_scale c *ℤ w i -ℤ pos n *ℤ raised_at c xi k i)))
    (total (rows d) (λ i. pos (2 ^ exponent_of c i) *ℤ square (machine_scale c *ℤ w i -ℤ pos n *ℤ raised_at c xi (suc k) i)))
    (total (entries d) (λ j. square (gradient_over d h r c e n j))) (total (rows d) (misses_over d h r c e n))
    (scale_is c.fraction_bits c.step_exponent) scaled.costs
    (dot_scaled (rows d) (share h c) (pos 2 *ℤ units h n) w rest (λ i l. scaled.residuals i))
    (cost_over d h c n (at xi) t) (distance_is (rows d) h c n w (raised_at c xi k)) (distance_is (rows d) h c n w (raised_at c xi (suc k)))
    refl (pos_positive (input_floor d) well.rho_positive) (power_positive 40) (pos_positive h.rows_scale form.rows_some) (omega (arith, ints))
    (errors_are d h r c e most n well form cheap)
    (design_step_law d (condensed_of d) (input_floor d) c.step_exponent (exponent_of c) (pos (2 * r) *ℤ over h c n) (over h c n)
    well condensed made.exponents (at xi)
    (plan_over c xi (units h n) k) (multipliers_over c xi (units h n) k) (residuals_over c xi (units h n) k) (multipliers_over c xi (units h n) (suc k))
    (gradient_over d h r c e n) (misses_over d h r c e n)
    (step_is d h r c xi n k e made shaped errors) (λ i. share h c *ℤ w i) (box_over (rows d) h c n (pos (2 * r)) w box)
    (λ j. share h c *ℤ t j) (feasible_over d h c n (at xi) t feasible))
  where
    rest : ℕ → ℤ
    rest = residual d (machine_scale c) (at xi) (lifted_plan c xi k)

    scaled : IsScaledPlan d (pos 2 *ℤ units h n) (machine_scale c) (at xi) (lifted_plan c xi k)
    scaled = scaling_law d (pos 2 *ℤ units h n) (machine_scale c) (at xi) (lifted_plan c xi k)

pub machine_step : MachineStepLaw
machine_step p h r c xi run k e most errors cheap (pos n) t w positive feasible box =
    step_bound (design_of p) h r c xi k n e most (sound p run.design) (condensing (design_of p) run.design.inputs.0) run.form run.made run.controller.form.sized.shaped
    errors cheap t w feasible box
machine_step p h r c xi run k e most errors cheap (negsuc n) t w positive feasible box = absurd (omega (arith, ints, positive))

-- by the stated errors
pub stated_step : StatedStepLaw
stated_step p h r c xi run k =
    machine_step p h r c xi run k (stated_errors (design_of p) h r c.fraction_bits) (epsilon (error_sums_of (design_of p) h r) c.fraction_bits) (carried p h r c xi run k) (omega arith)
