-- A run of the accelerated machine is a run of the accelerated method.
use Rattle.std.proofs.Common.{◌≡◌, ℕ, zero, suc, ◌+◌, ◌*◌, ◌<◌, ◌^◌, [], ◌∷◌, ℤ, pos, ◌+ℤ◌, ◌*ℤ◌, ◌≤ℤ◌, ◌<ℤ◌, List, length, arith, ap, sym, subst, ◌∙◌, refl}
use Rattle.std.proofs.lemmas.List.FromFn.{length-map-range_with_len}
use Rattle.integer_algebra.specs.Sums.{at, total, dot, image, none, square}
use Rattle.integer_algebra.proofs.SumLaws.{total_same}
use Rattle.integer_algebra.proofs.VectorLaws.{dot_same, dot_comm, dot_none, image_same}
use Rattle.integer_algebra.proofs.OrderLaws.{le_by, cancel-le_z, mul_nonneg_z, mul_pos_z}
use Rattle.std.proofs.lemmas.Int.{ints}
use Rattle.qp_model.specs.method.Objective.{Objective, bend, twice_cost}
use Rattle.qp_model.specs.method.Dual.{Program, row_residual, IsConditioned}
use Rattle.fast_machine.proofs.FastEvenLaws.{even_law}
use Rattle.integer_algebra.proofs.Quoting.{by_ring, quotes}
use Rattle.qp_model.specs.machine.Controller.{Numbers}
use Rattle.qp_model.specs.machine.Machine.{loaded, lowering_of, plan_entry, plan_of}
use Rattle.qp_model.proofs.MagnitudeLaws.{zeros_at}
use Rattle.fast_machine.specs.Fast.{weight, weights, weighted, IsFastRun, run_errors, FastRunBound}
use Rattle.fast_machine.proofs.FastRunLaws.{run_law}
use Rattle.overflow_check.specs.FastMachine.{step_weight, all_weights, means_of, fast_after}
use Rattle.fast_machine.specs.FastErrors.{fast_scale, made_after, plan_factor, fast_plan_over, fast_residuals_over, fast_multipliers_over, step_scale, HasFastErrors, IsFastRunOf, fast_average_over, BoundsAverage, FastPlanBound, FastAverageLaw, FastMachineRunLaw, FastMachineEvenLaw, FastCostLaw}
use Rattle.fast_machine.proofs.FastRuns.{added_item}
use Rattle.fast_machine.proofs.FastSteps.{nothing_times, one_more_term, weight_is, weights_are, multiplier_first, machine_step}

-- ---- the sums
sum_first : (c : Numbers) (state : List ℤ) (j : ℕ) → at (fast_after c state 0).sums j ≡ pos 0
unfolding fast_after
sum_first c state j = zeros_at (length c.offsets) j

sum_after : (c : Numbers) (state : List ℤ) (k j : ℕ) → j < length c.offsets →
    at (fast_after c state (suc k)).sums j ≡ at (fast_after c state k).sums j +ℤ pos (step_weight k) *ℤ at (fast_after c state (suc k)).plan j
unfolding fast_after
sum_after c state k j lt =
    let means = means_of c k (fast_after c state k).multipliers (fast_after c state k).reached in
    added_item (step_weight k) (fast_after c state k).sums (plan_of c state means) j (omega (arith, lt, length-map-range_with_len (plan_entry c state means) 0 (length c.offsets)))

sums_are : (c : Numbers) (xi : List ℤ) (b : ℤ) (n j : ℕ) → j < length c.offsets → weighted n (fast_plan_over c xi b) j ≡ plan_factor c b *ℤ at (made_after c xi n).sums j
sums_are c xi b zero j lt = sym (ap (λ (z : ℤ). plan_factor c b *ℤ z) (sum_first c (loaded c xi) j) ∙ nothing_times (plan_factor c b))
sums_are c xi b (suc n) j lt =
    one_more_term (plan_factor c b) (weight n) (at (made_after c xi n).sums j) (at (made_after c xi (suc n)).plan j) (sums_are c xi b n j lt)
    (sum_after c (loaded c xi) n j lt ∙ ap (λ (a : ℤ). at (made_after c xi n).sums j +ℤ a *ℤ at (made_after c xi (suc n)).plan j) (sym (weight_is n)))

pub average_law : FastAverageLaw
average_law p r c xi b run j l = sums_are c xi b c.steps j (omega (arith, l, run.entries))

-- ---- the run
none_over : (b l : ℤ) {z : ℤ} → z ≡ pos 0 → b *ℤ l *ℤ z ≡ pos 0
none_over b l h = rw h (by_ring (b ∷ l ∷ []) (search quotes depth 60 fits 20000) refl)

is_run : (p : Program) (rest : ℕ → ℤ) (common : ℤ) (r : ℕ) (c : Numbers) (xi : List ℤ) (b : ℤ) → IsConditioned p (step_scale c) rest common → IsFastRunOf p r c xi → pos 0 ≤ℤ b →
    (near alpha beta : ℕ → ℕ → ℤ) → ((k : ℕ) → k < c.steps → HasFastErrors p c xi b k (near k) (alpha k) (beta k)) →
    IsFastRun p (step_scale c) (pos (2 * r) *ℤ fast_scale c b) (fast_scale c b) c.steps (fast_plan_over c xi b) (fast_multipliers_over c xi b) (λ k i. weight k *ℤ fast_residuals_over c xi b k i) alpha beta
is_run p rest common r c xi b x run pb near alpha beta errors = record {
  starts = λ i l. none_over b (pos (2 ^ lowering_of c i)) (multiplier_first c (loaded c xi) i);
  steps = λ k l. machine_step p rest common r c xi b x run pb k (near k) (alpha k) (beta k) (errors k l);
}

-- ---- the averaged plan in place of the weighted plans
cost_same : (o : Objective) (q : ℤ) (u v : ℕ → ℤ) → ((j : ℕ) → j < o.entries → u j ≡ v j) → twice_cost o q u ≡ twice_cost o q v
cost_same o q u v h =
    ap (λ (z : ℤ). z +ℤ pos 2 *ℤ q *ℤ dot o.entries o.slope u +ℤ square q *ℤ o.base)
    (total_same o.entries (λ j. u j *ℤ image o.entries o.hessian u j) (λ j. v j *ℤ image o.entries o.hessian v j)
    (λ j l. ap (λ (z : ℤ). z *ℤ image o.entries o.hessian u j) (h j l) ∙ ap (λ (z : ℤ). v j *ℤ z) (image_same o.entries o.hessian u v j h)))
    ∙ ap (λ (z : ℤ). bend o v +ℤ pos 2 *ℤ q *ℤ z +ℤ square q *ℤ o.base) (dot_same o.entries o.slope u v h)

rows_same : (p : Program) (q : ℤ) (w u v : ℕ → ℤ) → ((j : ℕ) → j < p.cost.entries → u j ≡ v j) → dot p.rows w (row_residual p q u) ≡ dot p.rows w (row_residual p q v)
rows_same p q w u v h = dot_same p.rows w (row_residual p q u) (row_residual p q v) (λ i l. ap (λ (z : ℤ). z +ℤ q *ℤ p.offset i) (image_same p.cost.entries p.matrix u v i h))

by_sums : (p : Program) (r : ℕ) (c : Numbers) (xi : List ℤ) (b errors : ℤ) (t w : ℕ → ℤ) → IsFastRunOf p r c xi →
    FastRunBound p (step_scale c) (fast_scale c b) errors c.steps (fast_plan_over c xi b) t w → FastPlanBound p c xi b errors t w
by_sums p r c xi b errors t w run h =
    let q = weights c.steps *ℤ fast_scale c b in
    let sums = weighted c.steps (fast_plan_over c xi b) in
    let same : (j : ℕ) → j < p.cost.entries → sums j ≡ fast_average_over c xi b j = average_law p r c xi b run in
    subst (λ (a : ℤ). BoundsAverage p c xi a b errors t w) (weights_are c.steps)
    (rw (← cost_same p.cost q sums (fast_average_over c xi b) same, ← rows_same p q w sums (fast_average_over c xi b) same) h)

pub machine_run : FastMachineRunLaw
machine_run p rest common r c xi b x run pb near alpha beta errors w box t feasible =
    by_sums p r c xi b (run_errors p (pos (2 * r) *ℤ fast_scale c b) c.steps alpha beta) t w run
    (run_law p (step_scale c) rest common (pos (2 * r) *ℤ fast_scale c b) (fast_scale c b) c.steps x (fast_plan_over c xi b) (fast_multipliers_over c xi b)
    (λ k i. weight k *ℤ fast_residuals_over c xi b k i) alpha beta (is_run p rest common r c xi b x run pb near alpha beta errors) w box t feasible)

pub machine_even : FastMachineEvenLaw
machine_even p rest common r c xi b e f g j x run pb near alpha beta errors even w box t feasible =
    by_sums p r c xi b (pos 2 *ℤ p.rho *ℤ pos (all_weights c.steps) *ℤ fast_scale c b *ℤ e) t w run
    (rw (← weights_are c.steps) (even_law p (step_scale c) rest common (pos (2 * r) *ℤ fast_scale c b) (fast_scale c b) e f g j c.steps x (fast_plan_over c xi b) (fast_multipliers_over c xi b)
    (λ k i. weight k *ℤ fast_residuals_over c xi b k i) alpha beta (is_run p rest common r c xi b x run pb near alpha beta errors) even w box t feasible))

-- ---- at the multipliers 0
none_dot : (n : ℕ) (x : ℕ → ℤ) → dot n none x ≡ pos 0
none_dot n x = dot_comm n none x ∙ dot_none n x

cost_alone : (r h c a q e x t : ℤ) {z s : ℤ} → pos 0 <ℤ r → pos 0 <ℤ h → z ≡ pos 0 → s ≡ pos 0 →
    (r *ℤ h *ℤ x +ℤ pos 2 *ℤ c *ℤ h *ℤ a *ℤ z) ≤ℤ (r *ℤ h *ℤ (a *ℤ a) *ℤ t +ℤ pos 2 *ℤ c *ℤ r *ℤ h *ℤ a *ℤ s +ℤ c *ℤ r *ℤ a *ℤ (pos 2 *ℤ h *ℤ a *ℤ q *ℤ e)) →
    x ≤ℤ ((a *ℤ a) *ℤ t +ℤ pos 2 *ℤ c *ℤ (a *ℤ a) *ℤ q *ℤ e)
cost_alone r h c a q e x t pr ph f g l =
    cancel-le_z (r *ℤ h) x ((a *ℤ a) *ℤ t +ℤ pos 2 *ℤ c *ℤ (a *ℤ a) *ℤ q *ℤ e) (mul_pos_z r h pr ph)
    (le_by (rw (f, g) at l) (by_ring (r ∷ h ∷ c ∷ a ∷ q ∷ e ∷ x ∷ t ∷ []) (search quotes depth 60 fits 20000) refl))

none_scaled : (n : ℕ) (f : ℕ → ℤ) → total n (λ i. f i *ℤ square (none i)) ≡ pos 0
none_scaled zero f = refl
none_scaled (suc n) f = rw (none_scaled n f) (one_more_nothing (f n))
  where
    one_more_nothing : (g : ℤ) → pos 0 +ℤ g *ℤ pos 0 ≡ pos 0
    one_more_nothing g = by_ring (g ∷ []) (search quotes depth 60 fits 20000) refl

top_up : (r : ℕ) (c : Numbers) (b : ℤ) → pos 0 ≤ℤ b → pos 0 ≤ℤ (pos (2 * r) *ℤ fast_scale c b)
top_up r c b h =
    mul_nonneg_z (pos (2 * r)) (fast_scale c b) (omega (arith, ints)) (mul_nonneg_z (pos 2 *ℤ b) (pos (2 ^ (c.fraction_bits + c.step_exponent))) (mul_nonneg_z (pos 2) b (omega (arith, ints)) h) (omega (arith, ints)))

pub machine_cost : FastCostLaw
machine_cost p rest common r c xi b e f g j x run pb near alpha beta errors even t feasible =
    cost_alone p.row_denominator p.rho p.cost_denominator (pos (all_weights c.steps)) (fast_scale c b) e (twice_cost p.cost (pos (all_weights c.steps) *ℤ fast_scale c b) (fast_average_over c xi b))
    (twice_cost p.cost (fast_scale c b) t) x.row_denominator x.rho (none_dot p.rows (row_residual p (pos (all_weights c.steps) *ℤ fast_scale c b) (fast_average_over c xi b)))
    (none_scaled p.rows (step_scale c))
    (machine_even p rest common r c xi b e f g j x run pb near alpha beta errors even none (record { low = λ i l. omega (arith, ints); high = λ i l. top_up r c b pb }) t feasible)
