-- An accelerated projected dual gradient method, over whole numbers, for any program of qp_model's `Dual`.
--
-- Step k has the weight k + 2. It takes its plan at the mean, by the weights so far, of the multipliers that were reached and, by its own, of those that it
-- begins with; and it moves these by its weight times the residual. The method is Nesterov's with one projection a step, in the form of Tseng. V is the
-- cost and c are the rows. Plans, multipliers and errors are numerators over one denominator q, as in `Dual`.
use Rattle.std.specs.Prelude.{◌≡◌, ℕ, suc, ◌<◌, ℤ, pos, ◌+ℤ◌, ◌-ℤ◌, ◌*ℤ◌, ◌≤ℤ◌, ◌<ℤ◌}
use Rattle.integer_algebra.specs.Sums.{total, dot, coimage, square}
use Rattle.integer_algebra.specs.Bounds.{IsWithin, clamped}
use Rattle.qp_model.specs.method.Objective.{twice_cost, gradient}
use Rattle.qp_model.specs.method.Dual.{InBox, Program, row_residual, IsFeasiblePoint, IsConditioned, distance}

-- ---- weights
-- the weight of step k
abbrev pub weight : ℕ → ℤ
weight k = pos (suc (suc k))

-- the weights of n steps together
abbrev pub weights : ℕ → ℤ
weights n = total n weight

-- they are n (n + 3) / 2
abbrev pub WeightsLaw : Type 0
WeightsLaw = (n : ℕ) → pos 2 *ℤ weights n ≡ pos n *ℤ (pos n +ℤ pos 3)

-- the square of a weight is at most twice all weights with it
abbrev pub StartLaw : Type 0
StartLaw = (k : ℕ) → square (weight k) ≤ℤ (pos 2 *ℤ (weights k +ℤ weight k))

-- the sums of the weights up to each of n steps, added up: how often an error counts that accumulates
abbrev pub carried : ℕ → ℤ
carried n = total n (λ k. weights k +ℤ weight k)

-- they are at most j times all weights, where j is at least (n + 1) (n + 5) / (3 (n + 3))
abbrev pub CarryLaw : Type 0
CarryLaw = (n : ℕ) (j : ℤ) → ((pos n +ℤ pos 1) *ℤ (pos n +ℤ pos 5)) ≤ℤ (pos 3 *ℤ (pos n +ℤ pos 3) *ℤ j) → carried n ≤ℤ (j *ℤ weights n)

-- what n steps have, added up by their weights
abbrev pub weighted : ℕ → (ℕ → ℕ → ℤ) → ℕ → ℤ
weighted n f i = total n (λ k. weight k *ℤ f k i)

-- ---- one step
-- one step of weight a, after steps whose weights come to b, with the plan u, from the multipliers y to z; those that were reached before come to s by
-- their weights. v is a times the rows' values as they were computed. The bounds are alpha on the gradient's error and beta on the rows' errors
pub record IsFastStep (p : Program) (scale : ℕ → ℤ) (top q a b : ℤ) (u s y v z alpha beta : ℕ → ℤ) : Type 0 where
  -- the gradient of V + x'c at u is 0, but for its error, where (b + a) x is s + a y: times b + a
  pub gradient_error : (j : ℕ) → j < p.cost.entries →
      IsWithin ((b +ℤ a) *ℤ (p.cost_denominator *ℤ p.row_denominator) *ℤ alpha j)
      ((b +ℤ a) *ℤ p.row_denominator *ℤ gradient p.cost q u j +ℤ p.cost_denominator *ℤ coimage p.rows p.matrix (λ i. s i +ℤ a *ℤ y i) j)
  -- v is a c(u), but for a times the rows' errors
  pub row_error : (i : ℕ) → i < p.rows →
      IsWithin (p.row_denominator *ℤ a *ℤ beta i) (p.row_denominator *ℤ v i -ℤ a *ℤ row_residual p q u i)
  -- z is y + v / (2 scale), moved into 0 .. top
  pub moved : (i : ℕ) → i < p.rows →
      pos 2 *ℤ scale i *ℤ z i ≡ clamped (pos 2 *ℤ scale i *ℤ top) (pos 2 *ℤ scale i *ℤ y i +ℤ v i)

-- n V(u) + s'c(u), times 2 * cost_denominator * row_denominator * rho * q ^ 2
abbrev pub lagrangian : Program → ℤ → ℤ → (ℕ → ℤ) → (ℕ → ℤ) → ℤ
lagrangian p q n u s =
    p.row_denominator *ℤ p.rho *ℤ n *ℤ twice_cost p.cost q u +ℤ pos 2 *ℤ p.cost_denominator *ℤ p.rho *ℤ dot p.rows s (row_residual p q u)

-- (b + a) sum alpha^2 / (2 rho) + a * top * sum beta, times 2 * rho * q ^ 2
abbrev pub step_errors : Program → (top a b : ℤ) → (alpha beta : ℕ → ℤ) → ℤ
step_errors p top a b alpha beta =
    p.rho_denominator *ℤ (b +ℤ a) *ℤ total p.cost.entries (λ j. square (alpha j)) +ℤ pos 2 *ℤ p.rho *ℤ top *ℤ a *ℤ total p.rows beta

-- b V(u) + s'c(u) + a (V(u) + w'c(u)) ≤ (b + a) V(t) + (s + a z)'c(t) + sum scale ((w - y)^2 - (w - z)^2) + the errors, times
-- 2 * cost_denominator * row_denominator * rho * q ^ 2
abbrev pub FastStepBound : Program → (ℕ → ℤ) → (top q a b : ℤ) → (u s t w y z alpha beta : ℕ → ℤ) → Type 0
FastStepBound p scale top q a b u s t w y z alpha beta =
    (lagrangian p q b u s +ℤ a *ℤ lagrangian p q (pos 1) u w) ≤ℤ
    (lagrangian p q (b +ℤ a) t (λ i. s i +ℤ a *ℤ z i) +ℤ
    pos 2 *ℤ p.cost_denominator *ℤ p.row_denominator *ℤ p.rho *ℤ (distance p.rows scale w y -ℤ distance p.rows scale w z) +ℤ
    p.cost_denominator *ℤ p.row_denominator *ℤ step_errors p top a b alpha beta)

-- a step has its bound, for all multipliers w in the box and all plans t, where the square of its weight is at most twice all weights with it
abbrev pub FastStepLaw : Type 0
FastStepLaw = (p : Program) (scale rest : ℕ → ℤ) (common top q a b : ℤ) → IsConditioned p scale rest common →
    pos 0 <ℤ a → pos 0 ≤ℤ b → square a ≤ℤ (pos 2 *ℤ (b +ℤ a)) →
    (u s y v z alpha beta : ℕ → ℤ) → InBox p.rows top y → IsFastStep p scale top q a b u s y v z alpha beta →
    (w : ℕ → ℤ) → InBox p.rows top w → (t : ℕ → ℤ) →
    FastStepBound p scale top q a b u s t w y z alpha beta

-- ---- a run
-- n steps from the multipliers 0
pub record IsFastRun (p : Program) (scale : ℕ → ℤ) (top q : ℤ) (n : ℕ) (u y v alpha beta : ℕ → ℕ → ℤ) : Type 0 where
  pub starts : (i : ℕ) → i < p.rows → y 0 i ≡ pos 0
  pub steps : (k : ℕ) → k < n →
      IsFastStep p scale top q (weight k) (weights k) (u k) (weighted k (λ j. y (suc j))) (y k) (v k) (y (suc k)) (alpha k) (beta k)

-- the errors of all steps
abbrev pub run_errors : Program → ℤ → ℕ → (alpha beta : ℕ → ℕ → ℤ) → ℤ
run_errors p top n alpha beta = total n (λ k. step_errors p top (weight k) (weights k) (alpha k) (beta k))

-- V(avg) + w'c(avg) ≤ V(t) + sum scale w^2 / a + the errors / a, times 2 * cost_denominator * row_denominator * rho * (a q) ^ 2, where a are
-- the weights of the n steps, and avg is the average of their plans by these, with numerators over a q
abbrev pub FastRunBound : Program → (ℕ → ℤ) → (q errors : ℤ) → ℕ → (u : ℕ → ℕ → ℤ) → (t w : ℕ → ℤ) → Type 0
FastRunBound p scale q errors n u t w =
    (p.row_denominator *ℤ p.rho *ℤ twice_cost p.cost (weights n *ℤ q) (weighted n u) +ℤ
    pos 2 *ℤ p.cost_denominator *ℤ p.rho *ℤ weights n *ℤ dot p.rows w (row_residual p (weights n *ℤ q) (weighted n u))) ≤ℤ
    (p.row_denominator *ℤ p.rho *ℤ square (weights n) *ℤ twice_cost p.cost q t +ℤ
    pos 2 *ℤ p.cost_denominator *ℤ p.row_denominator *ℤ p.rho *ℤ weights n *ℤ total p.rows (λ i. scale i *ℤ square (w i)) +ℤ
    p.cost_denominator *ℤ p.row_denominator *ℤ weights n *ℤ errors)

-- a run has its bound, for all multipliers w in the box and all feasible plans t
abbrev pub FastRunLaw : Type 0
FastRunLaw = (p : Program) (scale rest : ℕ → ℤ) (common top q : ℤ) (n : ℕ) → IsConditioned p scale rest common →
    (u y v alpha beta : ℕ → ℕ → ℤ) → IsFastRun p scale top q n u y v alpha beta →
    (w : ℕ → ℤ) → InBox p.rows top w → (t : ℕ → ℤ) → IsFeasiblePoint p q t →
    FastRunBound p scale q (run_errors p top n alpha beta) n u t w

-- ---- a run whose steps all have the same bounds
-- the squares of each step's alpha come to at most f, and top times its beta to g; those of alpha accumulate, j times: j f / (2 rho) + g ≤ e
pub record HasEvenErrors (p : Program) (top q e f g j : ℤ) (n : ℕ) (alpha beta : ℕ → ℕ → ℤ) : Type 0 where
  pub gradients : (k : ℕ) → k < n → total p.cost.entries (λ i. square (alpha k i)) ≤ℤ f
  pub rows : (k : ℕ) → k < n → (top *ℤ total p.rows (beta k)) ≤ℤ g
  pub carry : carried n ≤ℤ (j *ℤ weights n)
  pub together : (p.rho_denominator *ℤ j *ℤ f +ℤ pos 2 *ℤ p.rho *ℤ g) ≤ℤ (pos 2 *ℤ p.rho *ℤ q *ℤ e)

-- the errors of such a run come to at most e: V(avg) + w'c(avg) ≤ V(t) + sum scale w^2 / a + e, for `errors` is a times e
abbrev pub FastEvenLaw : Type 0
FastEvenLaw = (p : Program) (scale rest : ℕ → ℤ) (common top q e f g j : ℤ) (n : ℕ) → IsConditioned p scale rest common →
    (u y v alpha beta : ℕ → ℕ → ℤ) → IsFastRun p scale top q n u y v alpha beta →
    HasEvenErrors p top q e f g j n alpha beta →
    (w : ℕ → ℤ) → InBox p.rows top w → (t : ℕ → ℤ) → IsFeasiblePoint p q t →
    FastRunBound p scale q (pos 2 *ℤ p.rho *ℤ weights n *ℤ q *ℤ e) n u t w
