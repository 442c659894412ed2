-- The accelerated machine as the accelerated method: each of its steps is an inexact step of the method, and so a run bounds the Lagrangian at the averaged plan.
--
-- All numbers are numerators over one denominator, 2 b times 2^(fraction_bits + step_exponent), where b is any number that is not negative.
use Rattle.std.specs.Prelude.{◌≡◌, ℕ, suc, ◌+◌, ◌*◌, ◌^◌, ◌<◌, ℤ, pos, ◌+ℤ◌, ◌-ℤ◌, ◌*ℤ◌, ◌≤ℤ◌, List, length}
use Rattle.integer_algebra.specs.Sums.{at, total, dot, coimage, square}
use Rattle.integer_algebra.specs.Bounds.{absolute, IsWithin}
use Rattle.integer_algebra.specs.Division.{floor_of}
use Rattle.qp_model.specs.method.Objective.{gradient, twice_cost}
use Rattle.qp_model.specs.method.Dual.{InBox, Program, row_residual, IsFeasiblePoint, IsConditioned}
use Rattle.qp_model.specs.machine.Controller.{Numbers}
use Rattle.qp_model.specs.machine.Machine.{IsAdmissible, loaded, exponent_of, lowering_of, row_sum}
use Rattle.fast_machine.specs.Fast.{weight, weights, weighted, IsFastStep, run_errors, HasEvenErrors}
use Rattle.overflow_check.specs.FastMachine.{FastIterate, all_weights, fast_after, fast_plan}
use Rattle.overflow_check.specs.FastController.{IsFastController}

-- ---- the numbers of step k of a run from a grid state, over the denominator
abbrev pub fast_scale : Numbers → ℤ → ℤ
fast_scale c b = pos 2 *ℤ b *ℤ pos (2 ^ (c.fraction_bits + c.step_exponent))

-- what the machine has made after k steps
abbrev pub made_after : Numbers → List ℤ → ℕ → FastIterate
made_after c xi k = fast_after c (loaded c xi) k

-- what a plan over 2^fraction_bits is times
abbrev pub plan_factor : Numbers → ℤ → ℤ
plan_factor c b = pos 2 *ℤ b *ℤ pos (2 ^ c.step_exponent)

abbrev pub fast_plan_over : Numbers → List ℤ → ℤ → ℕ → ℕ → ℤ
fast_plan_over c xi b k j = plan_factor c b *ℤ at (made_after c xi (suc k)).plan j

abbrev pub fast_means_over : Numbers → List ℤ → ℤ → ℕ → ℕ → ℤ
fast_means_over c xi b k i = pos 2 *ℤ b *ℤ at (made_after c xi (suc k)).means i

-- the residuals that it uses
abbrev pub fast_residuals_over : Numbers → List ℤ → ℤ → ℕ → ℕ → ℤ
fast_residuals_over c xi b k i = plan_factor c b *ℤ floor_of (row_sum c (loaded c xi) (made_after c xi (suc k)).plan i) (2 ^ c.fraction_bits)

-- the multipliers before it
abbrev pub fast_multipliers_over : Numbers → List ℤ → ℤ → ℕ → ℕ → ℤ
fast_multipliers_over c xi b k i = b *ℤ pos (2 ^ lowering_of c i) *ℤ at (made_after c xi k).multipliers i

abbrev pub step_scale : Numbers → ℕ → ℤ
step_scale c i = pos (2 ^ exponent_of c i)

-- ---- errors
-- how far entry j of the coimage moves at most where each mean is rounded: none by more than 2^-(fraction_bits + its exponent)
abbrev pub mean_misses : Program → Numbers → ℤ → ℕ → ℤ
mean_misses p c b j = total p.rows (λ i. pos 2 *ℤ (b *ℤ pos (2 ^ lowering_of c i)) *ℤ absolute (p.matrix i j))

-- at the plan of step k the gradient with the means, as they are rounded, is within `near` of 0, and alpha is at least that and what the rounding
-- moves it by; the residuals used are within beta of the plan's
pub record HasFastErrors (p : Program) (c : Numbers) (xi : List ℤ) (b : ℤ) (k : ℕ) (near alpha beta : ℕ → ℤ) : Type 0 where
  pub gradient_error : (j : ℕ) → j < p.cost.entries → IsWithin (p.cost_denominator *ℤ p.row_denominator *ℤ near j)
      (p.row_denominator *ℤ gradient p.cost (fast_scale c b) (fast_plan_over c xi b k) j +ℤ p.cost_denominator *ℤ coimage p.rows p.matrix (fast_means_over c xi b k) j)
  pub mean_error : (j : ℕ) → j < p.cost.entries → (p.row_denominator *ℤ near j +ℤ mean_misses p c b j) ≤ℤ (p.row_denominator *ℤ alpha j)
  pub row_error : (i : ℕ) → i < p.rows →
      IsWithin (p.row_denominator *ℤ beta i) (p.row_denominator *ℤ fast_residuals_over c xi b k i -ℤ row_residual p (fast_scale c b) (fast_plan_over c xi b k) i)

-- ---- the laws
-- a controller with the sizes of a program and with multipliers up to 2 r, and a grid state of its box
pub record IsFastRunOf (p : Program) (r : ℕ) (c : Numbers) (xi : List ℤ) : Type 0 where
  pub controller : IsFastController c
  pub grid : IsAdmissible c xi
  pub rows : p.rows ≡ length c.bounds
  pub entries : p.cost.entries ≡ length c.offsets
  pub clamp : c.clamp ≡ pos (2 * r * 2 ^ (c.fraction_bits + c.step_exponent))

-- a step of the machine is a step of the method
abbrev pub FastMachineStepLaw : Type 0
FastMachineStepLaw = (p : Program) (rest : ℕ → ℤ) (common : ℤ) (r : ℕ) (c : Numbers) (xi : List ℤ) (b : ℤ) → IsConditioned p (step_scale c) rest common →
    IsFastRunOf p r c xi → pos 0 ≤ℤ b → (k : ℕ) (near alpha beta : ℕ → ℤ) → HasFastErrors p c xi b k near alpha beta →
    IsFastStep p (step_scale c) (pos (2 * r) *ℤ fast_scale c b) (fast_scale c b) (weight k) (weights k) (fast_plan_over c xi b k)
    (weighted k (λ j. fast_multipliers_over c xi b (suc j))) (fast_multipliers_over c xi b k) (λ i. weight k *ℤ fast_residuals_over c xi b k i)
    (fast_multipliers_over c xi b (suc k)) alpha beta

-- the plans of a run, by their weights, come to its sums
abbrev pub FastAverageLaw : Type 0
FastAverageLaw = (p : Program) (r : ℕ) (c : Numbers) (xi : List ℤ) (b : ℤ) → IsFastRunOf p r c xi → (j : ℕ) → j < p.cost.entries →
    weighted c.steps (fast_plan_over c xi b) j ≡ plan_factor c b *ℤ at (fast_plan c xi) j

-- the averaged plan: numerators over all weights of the run times fast_scale
abbrev pub fast_average_over : Numbers → List ℤ → ℤ → ℕ → ℤ
fast_average_over c xi b j = plan_factor c b *ℤ at (fast_plan c xi) j

-- V(avg) + w'c(avg) ≤ V(t) + sum 2^exponent w^2 / a + the errors / a, times 2 * cost_denominator * row_denominator * rho * (a q) ^ 2, where q is fast_scale
abbrev pub BoundsAverage : Program → Numbers → List ℤ → (a b errors : ℤ) → (t w : ℕ → ℤ) → Type 0
BoundsAverage p c xi a b errors t w =
    let q = fast_scale c b in
    (p.row_denominator *ℤ p.rho *ℤ twice_cost p.cost (a *ℤ q) (fast_average_over c xi b) +ℤ
    pos 2 *ℤ p.cost_denominator *ℤ p.rho *ℤ a *ℤ dot p.rows w (row_residual p (a *ℤ q) (fast_average_over c xi b))) ≤ℤ
    (p.row_denominator *ℤ p.rho *ℤ square a *ℤ twice_cost p.cost q t +ℤ
    pos 2 *ℤ p.cost_denominator *ℤ p.row_denominator *ℤ p.rho *ℤ a *ℤ total p.rows (λ i. step_scale c i *ℤ square (w i)) +ℤ
    p.cost_denominator *ℤ p.row_denominator *ℤ a *ℤ errors)

-- where a are all weights of the run
abbrev pub FastPlanBound : Program → Numbers → List ℤ → (b errors : ℤ) → (t w : ℕ → ℤ) → Type 0
FastPlanBound p c xi b = BoundsAverage p c xi (pos (all_weights c.steps)) b

-- a run bounds the Lagrangian at the averaged plan, for all multipliers w in the box and all feasible plans t
abbrev pub FastMachineRunLaw : Type 0
FastMachineRunLaw = (p : Program) (rest : ℕ → ℤ) (common : ℤ) (r : ℕ) (c : Numbers) (xi : List ℤ) (b : ℤ) → IsConditioned p (step_scale c) rest common →
    IsFastRunOf p r c xi → pos 0 ≤ℤ b → (near alpha beta : ℕ → ℕ → ℤ) →
    ((k : ℕ) → k < c.steps → HasFastErrors p c xi b k (near k) (alpha k) (beta k)) →
    (w : ℕ → ℤ) → InBox p.rows (pos (2 * r) *ℤ fast_scale c b) w → (t : ℕ → ℤ) → IsFeasiblePoint p (fast_scale c b) t →
    FastPlanBound p c xi b (run_errors p (pos (2 * r) *ℤ fast_scale c b) c.steps alpha beta) t w

-- where the errors of all steps have the same bounds, and come to e by how often they count, that has e in place of the errors / a
abbrev pub FastMachineEvenLaw : Type 0
FastMachineEvenLaw = (p : Program) (rest : ℕ → ℤ) (common : ℤ) (r : ℕ) (c : Numbers) (xi : List ℤ) (b e f g j : ℤ) → IsConditioned p (step_scale c) rest common →
    IsFastRunOf p r c xi → pos 0 ≤ℤ b → (near alpha beta : ℕ → ℕ → ℤ) →
    ((k : ℕ) → k < c.steps → HasFastErrors p c xi b k (near k) (alpha k) (beta k)) →
    HasEvenErrors p (pos (2 * r) *ℤ fast_scale c b) (fast_scale c b) e f g j c.steps alpha beta →
    (w : ℕ → ℤ) → InBox p.rows (pos (2 * r) *ℤ fast_scale c b) w → (t : ℕ → ℤ) → IsFeasiblePoint p (fast_scale c b) t →
    FastPlanBound p c xi b (pos 2 *ℤ p.rho *ℤ pos (all_weights c.steps) *ℤ fast_scale c b *ℤ e) t w

-- and the averaged plan costs at most e more than any feasible plan: V(avg) ≤ V(t) + e, times 2 * cost_denominator * (a q) ^ 2, where a are all weights of the run
abbrev pub FastCostLaw : Type 0
FastCostLaw = (p : Program) (rest : ℕ → ℤ) (common : ℤ) (r : ℕ) (c : Numbers) (xi : List ℤ) (b e f g j : ℤ) → IsConditioned p (step_scale c) rest common →
    IsFastRunOf p r c xi → pos 0 ≤ℤ b → (near alpha beta : ℕ → ℕ → ℤ) →
    ((k : ℕ) → k < c.steps → HasFastErrors p c xi b k (near k) (alpha k) (beta k)) →
    HasEvenErrors p (pos (2 * r) *ℤ fast_scale c b) (fast_scale c b) e f g j c.steps alpha beta →
    (t : ℕ → ℤ) → IsFeasiblePoint p (fast_scale c b) t →
    twice_cost p.cost (pos (all_weights c.steps) *ℤ fast_scale c b) (fast_average_over c xi b) ≤ℤ
    (square (pos (all_weights c.steps)) *ℤ twice_cost p.cost (fast_scale c b) t +ℤ
    pos 2 *ℤ p.cost_denominator *ℤ square (pos (all_weights c.steps)) *ℤ fast_scale c b *ℤ e)
