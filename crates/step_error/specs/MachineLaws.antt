-- What the machine of a controller that is made for a design promises: its errors at each step, one step, and a whole run.
use Rattle.std.specs.Prelude.{◌≡◌, ℕ, suc, ◌+◌, ◌*◌, ◌^◌, ◌<◌, ◌≤◌, ℤ, pos, ◌+ℤ◌, ◌-ℤ◌, ◌*ℤ◌, ◌≤ℤ◌, ◌<ℤ◌, List, length, unsigned_abs}
use Rattle.integer_algebra.specs.Sums.{at, total, dot, square}
use Rattle.integer_algebra.specs.Bounds.{IsWithin}
use Rattle.integer_algebra.specs.Division.{floor_of}
use Rattle.qp_model.specs.method.Dual.{InBox}
use Rattle.qp_model.specs.problem.Design.{Design, entries, rows}
use Rattle.qp_model.specs.problem.Parts.{IsDesign, design_of}
use Rattle.qp_model.specs.form.Form.{Form, IsFormFor, plan_radii, state_radii}
use Rattle.qp_model.specs.problem.Box.{IsGridState}
use Rattle.qp_model.specs.problem.Cost.{cost, cost_scale}
use Rattle.qp_model.specs.problem.Residual.{residual, residual_scale, IsFeasible}
use Rattle.qp_model.specs.form.Condensing.{condensed_of}
use Rattle.qp_model.specs.machine.Controller.{Numbers}
use Rattle.qp_model.specs.machine.AbsoluteSums.{IsController}
use Rattle.qp_model.specs.machine.Machine.{exponent_of, raised, loaded, plan_of, row_sum, after, average_denominator, averaged_plan}
use Rattle.qp_model.specs.bounds.Built.{IsDerivedFrom}
use Rattle.qp_model.specs.bounds.Errors.{state_bound, error_sums_of, radius_error, residual_error, epsilon, StepErrors, stated_errors, cost_of_errors}
use Rattle.qp_model.specs.declared.design_parts.DesignParts.{DesignParts}
use Rattle.step_error.specs.Laws.{slant}

-- ---- the numbers of step k from a grid state
-- the multipliers before it, each over 2^(fraction_bits + its exponent)
abbrev pub multipliers_at : Numbers → List ℤ → ℕ → List ℤ
multipliers_at c xi k = (after c (loaded c xi) k).multipliers

-- the same, all over 2^(fraction_bits + step_exponent)
abbrev pub raised_at : Numbers → List ℤ → ℕ → ℕ → ℤ
raised_at c xi k = at (raised c (multipliers_at c xi k))

-- its plan, over 2^fraction_bits
abbrev pub plan_at : Numbers → List ℤ → ℕ → List ℤ
plan_at c xi k = plan_of c (loaded c xi) (raised c (multipliers_at c xi k))

-- the residual of row i that it uses, over 2^fraction_bits
abbrev pub used_residual : Numbers → List ℤ → ℕ → ℕ → ℤ
used_residual c xi k i = floor_of (row_sum c (loaded c xi) (plan_at c xi k) i) (2 ^ c.fraction_bits)

-- what these multipliers are over, and the plan brought over it
abbrev pub machine_scale : Numbers → ℤ
machine_scale c = pos (2 ^ (c.fraction_bits + c.step_exponent))

abbrev pub lifted_plan : Numbers → List ℤ → ℕ → ℕ → ℤ
lifted_plan c xi k j = pos (2 ^ c.step_exponent) *ℤ at (plan_at c xi k) j

-- ---- errors
-- what the radii move the residual of row i by, over rows_scale, where no plan entry is above `plan`
abbrev pub row_radius : Design → Form → (plan : ℕ) → ℕ → ℕ
row_radius d h plan i = plan * plan_radii h i + state_bound d * state_radii h i

-- Each multiplier lies in 0 .. 2 r, and each plan entry is at most e.plan. Each entry of H u + F x + h0 + G'y is at most 2^-fraction_bits e.gradient
-- and 2^-40 times the radius error. Each residual used is within 2^-(fraction_bits + 1) times the residual error, and what the radii of its row come to,
-- of the plan's.
pub record HasErrors (d : Design) (h : Form) (r : ℕ) (c : Numbers) (xi : List ℤ) (k : ℕ) (e : StepErrors) : Type 0 where
  pub multipliers : InBox (rows d) (pos (2 * r) *ℤ machine_scale c) (raised_at c xi k)
  pub plan : (j : ℕ) → j < entries d → unsigned_abs (at (plan_at c xi k) j) ≤ 2 ^ c.fraction_bits * e.plan
  pub gradient : (j : ℕ) → j < entries d →
      IsWithin (pos (cost_scale d) *ℤ pos (residual_scale d) *ℤ
      pos (2 ^ 40 * 2 ^ c.step_exponent * e.gradient j + 2 ^ (c.fraction_bits + c.step_exponent) * radius_error (error_sums_of d h r) e.plan))
      (pos (2 ^ 40) *ℤ slant d (condensed_of d) (machine_scale c) (at xi) (lifted_plan c xi k) (raised_at c xi k) j)
  pub residuals : (i : ℕ) → i < rows d →
      IsWithin (pos (residual_scale d * (h.rows_scale * residual_error (error_sums_of d h r) e.plan + 2 * 2 ^ c.fraction_bits * row_radius d h e.plan i)))
      (pos (2 * h.rows_scale) *ℤ (pos (residual_scale d) *ℤ used_residual c xi k i -ℤ residual d (pos (2 ^ c.fraction_bits)) (at xi) (at (plan_at c xi k)) i))

-- a controller that is made for a design, by a form of it and with multipliers up to 2 r, and a grid state of the design's box
pub record IsRunOf (p : DesignParts) (h : Form) (r : ℕ) (c : Numbers) (xi : List ℤ) : Type 0 where
  pub design : IsDesign p
  pub bound : 1 ≤ r
  pub form : IsFormFor (design_of p) h
  pub controller : IsController c
  pub made : IsDerivedFrom (design_of p) h r c
  pub long : length xi ≡ (design_of p).states
  pub inside : IsGridState (design_of p) (at xi)

-- each step has the stated errors
abbrev pub CarriedLaw : Type 0
CarriedLaw = (p : DesignParts) (h : Form) (r : ℕ) (c : Numbers) (xi : List ℤ) → IsRunOf p h r c xi → (k : ℕ) →
    HasErrors (design_of p) h r c xi k (stated_errors (design_of p) h r c.fraction_bits)

-- ---- one step
-- V(u) + w'c(u) ≤ V(t) + sum 2^(s_i - 1) ((w_i - y_i)^2 - (w_i - z_i)^2) + cost / 2^40, for the plan u of step k and the multipliers y before it and z
-- after it, the multipliers w and the plan t over q; times 2^41 cost_scale residual_scale q^2 scale^2, with the machine's scale
abbrev pub MachineStepBound : (d : Design) (c : Numbers) (xi : List ℤ) (k : ℕ) (q : ℤ) (t w : ℕ → ℤ) (cost : ℕ) → Type 0
MachineStepBound d c xi k q t w most =
    (pos (2 ^ 41) *ℤ pos (residual_scale d) *ℤ square q *ℤ cost d (machine_scale c) (at xi) (lifted_plan c xi k) +ℤ
    pos (2 ^ 41) *ℤ pos (cost_scale d) *ℤ machine_scale c *ℤ q *ℤ dot (rows d) w (residual d (machine_scale c) (at xi) (lifted_plan c xi k))) ≤ℤ
    (pos (2 ^ 41) *ℤ pos (residual_scale d) *ℤ square (machine_scale c) *ℤ cost d q (at xi) t +ℤ
    pos (2 ^ 40) *ℤ pos (cost_scale d) *ℤ pos (residual_scale d) *ℤ
    (total (rows d) (λ i. pos (2 ^ exponent_of c i) *ℤ square (machine_scale c *ℤ w i -ℤ q *ℤ raised_at c xi k i)) -ℤ
    total (rows d) (λ i. pos (2 ^ exponent_of c i) *ℤ square (machine_scale c *ℤ w i -ℤ q *ℤ raised_at c xi (suc k) i))) +ℤ
    pos 2 *ℤ pos (cost_scale d) *ℤ pos (residual_scale d) *ℤ square q *ℤ square (machine_scale c) *ℤ pos most)

-- a step whose errors cost at most `most` has its bound, for all multipliers w in the box and all feasible plans t
abbrev pub MachineStepLaw : Type 0
MachineStepLaw = (p : DesignParts) (h : Form) (r : ℕ) (c : Numbers) (xi : List ℤ) → IsRunOf p h r c xi → (k : ℕ) (e : StepErrors) (most : ℕ) →
    HasErrors (design_of p) h r c xi k e → cost_of_errors (design_of p) h r c.fraction_bits e ≤ most →
    (q : ℤ) (t w : ℕ → ℤ) → pos 0 <ℤ q → IsFeasible (design_of p) q (at xi) t → InBox (rows (design_of p)) (pos (2 * r) *ℤ q) w →
    MachineStepBound (design_of p) c xi k q t w most

-- each step has it by the stated errors
abbrev pub StatedStepLaw : Type 0
StatedStepLaw = (p : DesignParts) (h : Form) (r : ℕ) (c : Numbers) (xi : List ℤ) → IsRunOf p h r c xi → (k : ℕ) →
    (q : ℤ) (t w : ℕ → ℤ) → pos 0 <ℤ q → IsFeasible (design_of p) q (at xi) t → InBox (rows (design_of p)) (pos (2 * r) *ℤ q) w →
    MachineStepBound (design_of p) c xi k q t w (epsilon (error_sums_of (design_of p) h r) c.fraction_bits)

-- ---- a whole run
-- V(u) + w'c(u) ≤ V(t) + sum 2^e_i w_i^2 / (2 n) + cost / 2^40, for a plan u over a, the multipliers w and the plan t over q; times
-- 2^41 n cost_scale residual_scale q^2 a^2
abbrev pub BoundsPlan : (d : Design) (xi : ℕ → ℤ) (n : ℕ) (exponent : ℕ → ℕ) (a : ℤ) (u : ℕ → ℤ) (q : ℤ) (t w : ℕ → ℤ) (cost : ℕ) → Type 0
BoundsPlan d xi n exponent a u q t w most =
    (pos (2 ^ 41) *ℤ pos n *ℤ pos (residual_scale d) *ℤ square q *ℤ cost d a xi u +ℤ
    pos (2 ^ 41) *ℤ pos n *ℤ pos (cost_scale d) *ℤ a *ℤ q *ℤ dot (rows d) w (residual d a xi u)) ≤ℤ
    (pos (2 ^ 41) *ℤ pos n *ℤ pos (residual_scale d) *ℤ square a *ℤ cost d q xi t +ℤ
    pos (2 ^ 40) *ℤ pos (cost_scale d) *ℤ pos (residual_scale d) *ℤ square a *ℤ total (rows d) (λ i. pos (2 ^ exponent i) *ℤ square (w i)) +ℤ
    pos 2 *ℤ pos n *ℤ pos (cost_scale d) *ℤ pos (residual_scale d) *ℤ square q *ℤ square a *ℤ pos most)

-- of the averaged plan, by the steps and the step exponents
abbrev pub MachineRunBound : (d : Design) (c : Numbers) (xi : List ℤ) (q : ℤ) (t w : ℕ → ℤ) (cost : ℕ) → Type 0
MachineRunBound d c xi = BoundsPlan d (at xi) c.steps (exponent_of c) (pos (average_denominator c)) (at (averaged_plan c xi))

-- a run, the errors of each step of which cost at most `most`, has its bound
abbrev pub MachineRunLaw : Type 0
MachineRunLaw = (p : DesignParts) (h : Form) (r : ℕ) (c : Numbers) (xi : List ℤ) → IsRunOf p h r c xi → (e : StepErrors) (most : ℕ) →
    ((k : ℕ) → k < c.steps → HasErrors (design_of p) h r c xi k e) → cost_of_errors (design_of p) h r c.fraction_bits e ≤ most →
    (q : ℤ) (t w : ℕ → ℤ) → pos 0 <ℤ q → IsFeasible (design_of p) q (at xi) t → InBox (rows (design_of p)) (pos (2 * r) *ℤ q) w →
    MachineRunBound (design_of p) c xi q t w most

-- each run has it by the stated errors
abbrev pub StatedRunLaw : Type 0
StatedRunLaw = (p : DesignParts) (h : Form) (r : ℕ) (c : Numbers) (xi : List ℤ) → IsRunOf p h r c xi →
    (q : ℤ) (t w : ℕ → ℤ) → pos 0 <ℤ q → IsFeasible (design_of p) q (at xi) t → InBox (rows (design_of p)) (pos (2 * r) *ℤ q) w →
    MachineRunBound (design_of p) c xi q t w (epsilon (error_sums_of (design_of p) h r) c.fraction_bits)
