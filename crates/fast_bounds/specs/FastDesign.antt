-- What the accelerated machine of a controller that is made for a design promises: the errors of its steps, and a bound of each run.
use Rattle.std.specs.Prelude.{◌≡◌, ℕ, suc, ◌+◌, ◌*◌, ◌^◌, ◌<◌, ◌≤◌, ℤ, pos, ◌-ℤ◌, ◌*ℤ◌, ◌<ℤ◌, List, length, unsigned_abs}
use Rattle.integer_algebra.specs.Sums.{at}
use Rattle.integer_algebra.specs.Bounds.{IsWithin}
use Rattle.integer_algebra.specs.Division.{floor_of}
use Rattle.qp_model.specs.method.Dual.{InBox}
use Rattle.qp_model.specs.problem.Design.{Design, entries, rows}
use Rattle.qp_model.specs.problem.Parts.{IsDesign, design_of}
use Rattle.qp_model.specs.problem.Box.{IsGridState}
use Rattle.qp_model.specs.problem.Cost.{cost_scale}
use Rattle.qp_model.specs.problem.Residual.{residual, residual_scale, IsFeasible}
use Rattle.qp_model.specs.form.Form.{Form, IsFormFor}
use Rattle.qp_model.specs.form.Condensing.{condensed_of}
use Rattle.qp_model.specs.machine.Controller.{Numbers, IsShaped}
use Rattle.qp_model.specs.machine.Machine.{exponent_of, loaded, plan_of, row_sum}
use Rattle.qp_model.specs.bounds.Built.{IsDerivedFrom}
use Rattle.qp_model.specs.bounds.Errors.{error_sums_of, radius_error, residual_error, StepErrors, stated_errors, epsilon}
use Rattle.qp_model.specs.bounds.RealErrors.{real_errors}
use Rattle.qp_model.specs.declared.design_parts.DesignParts.{DesignParts}
use Rattle.step_error.specs.Laws.{slant}
use Rattle.step_error.specs.MachineLaws.{machine_scale, row_radius, BoundsPlan}
use Rattle.overflow_check.specs.FastMachine.{fast_denominator, fast_plan}
use Rattle.overflow_check.specs.FastController.{IsFastController}
use Rattle.fast_machine.specs.FastErrors.{made_after}
use Rattle.step_error.specs.CarriedErrors.{with_means, cost_of_run, run_sums_of}

-- ---- a plan at any multipliers
-- the plan at multipliers over 2^(fraction_bits + step_exponent), which the machine of these numbers makes from a grid state: its entries are at most
-- e.plan; each entry of H u + F x + h0 + G'y is at most 2^-fraction_bits e.gradient and 2^-40 times the radius error; and each residual used is within
-- 2^-(fraction_bits + 1) times the residual error, and what the radii of its row come to, of the plan's
pub record HasErrorsAt (d : Design) (h : Form) (r : ℕ) (c : Numbers) (xi multipliers : List ℤ) (e : StepErrors) : Type 0 where
  pub plan : (j : ℕ) → j < entries d → unsigned_abs (at (plan_of c (loaded c xi) multipliers) j) ≤ 2 ^ c.fraction_bits * e.plan
  pub gradient : (j : ℕ) → j < entries d →
      IsWithin (pos (cost_scale d) *ℤ pos (residual_scale d) *ℤ
      pos (2 ^ 40 * 2 ^ c.step_exponent * e.gradient j + 2 ^ (c.fraction_bits + c.step_exponent) * radius_error (error_sums_of d h r) e.plan))
      (pos (2 ^ 40) *ℤ slant d (condensed_of d) (machine_scale c) (at xi) (λ j. pos (2 ^ c.step_exponent) *ℤ at (plan_of c (loaded c xi) multipliers) j) (at multipliers) j)
  pub residuals : (i : ℕ) → i < rows d →
      IsWithin (pos (residual_scale d * (h.rows_scale * residual_error (error_sums_of d h r) e.plan + 2 * 2 ^ c.fraction_bits * row_radius d h e.plan i)))
      (pos (2 * h.rows_scale) *ℤ (pos (residual_scale d) *ℤ floor_of (row_sum c (loaded c xi) (plan_of c (loaded c xi) multipliers) i) (2 ^ c.fraction_bits)
      -ℤ residual d (pos (2 ^ c.fraction_bits)) (at xi) (at (plan_of c (loaded c xi) multipliers)) i))

-- numbers that are made for a design, by a form of it and with multipliers up to 2 r, a grid state of the design's box, and multipliers in 0 .. 2 r
pub record IsPlanOf (p : DesignParts) (h : Form) (r : ℕ) (c : Numbers) (xi multipliers : List ℤ) : Type 0 where
  pub design : IsDesign p
  pub form : IsFormFor (design_of p) h
  pub shaped : IsShaped c
  pub bits : c.grid_bits ≤ c.fraction_bits
  pub made : IsDerivedFrom (design_of p) h r c
  pub long : length xi ≡ (design_of p).states
  pub inside : IsGridState (design_of p) (at xi)
  pub multiplier_count : length multipliers ≡ c.rows
  pub box : InBox (rows (design_of p)) (pos (2 * r) *ℤ machine_scale c) (at multipliers)

-- each such plan has the stated errors, and those that the controller's gains leave
pub record PlanErrorsLaw : Type 0 where
  pub stated : (p : DesignParts) (h : Form) (r : ℕ) (c : Numbers) (xi multipliers : List ℤ) → IsPlanOf p h r c xi multipliers →
      HasErrorsAt (design_of p) h r c xi multipliers (stated_errors (design_of p) h r c.fraction_bits)
  pub real : (p : DesignParts) (h : Form) (r : ℕ) (c : Numbers) (xi multipliers : List ℤ) → IsPlanOf p h r c xi multipliers →
      HasErrorsAt (design_of p) h r c xi multipliers (real_errors (design_of p) h r c)

-- ---- a run of the accelerated machine
-- a controller that is made for a design, and a grid state of the design's box
pub record IsFastRunFor (p : DesignParts) (h : Form) (r : ℕ) (c : Numbers) (xi : List ℤ) : Type 0 where
  pub design : IsDesign p
  pub bound : 1 ≤ r
  pub form : IsFormFor (design_of p) h
  pub controller : IsFastController c
  pub made : IsDerivedFrom (design_of p) h r c
  pub long : length xi ≡ (design_of p).states
  pub inside : IsGridState (design_of p) (at xi)

-- the plan of each of its steps has the errors e, where it is made at the means as they are rounded
abbrev pub HasFastRunErrors : Design → Form → ℕ → Numbers → List ℤ → StepErrors → Type 0
HasFastRunErrors d h r c xi e = (k : ℕ) → k < c.steps → HasErrorsAt d h r c xi (made_after c xi (suc k)).means e

-- the means of each step are such multipliers
pub record FastCarriedLaw : Type 0 where
  pub stated : (p : DesignParts) (h : Form) (r : ℕ) (c : Numbers) (xi : List ℤ) → IsFastRunFor p h r c xi →
      HasFastRunErrors (design_of p) h r c xi (stated_errors (design_of p) h r c.fraction_bits)
  pub real : (p : DesignParts) (h : Form) (r : ℕ) (c : Numbers) (xi : List ℤ) → IsFastRunFor p h r c xi →
      HasFastRunErrors (design_of p) h r c xi (real_errors (design_of p) h r c)

-- V(avg) + w'c(avg) ≤ V(t) + sum 2^s_i w_i^2 / (K (K + 3) / 2) + cost / 2^40, for the averaged plan: the bound of the plain method after K (K + 3)
-- steps that are a quarter as long
abbrev pub FastRunBoundFor : (d : Design) (c : Numbers) (xi : List ℤ) (q : ℤ) (t w : ℕ → ℤ) (cost : ℕ) → Type 0
FastRunBoundFor d c xi = BoundsPlan d (at xi) (c.steps * (c.steps + 3)) (λ i. exponent_of c i + 2) (pos (fast_denominator c)) (at (fast_plan c xi))

-- a run, the errors of whose steps cost at most `most`, has its bound, for all multipliers w in the box and all feasible plans t
abbrev pub FastDesignRunLaw : Type 0
FastDesignRunLaw = (p : DesignParts) (h : Form) (r : ℕ) (c : Numbers) (xi : List ℤ) → IsFastRunFor p h r c xi → (e : StepErrors) (most : ℕ) →
    HasFastRunErrors (design_of p) h r c xi e → cost_of_run (design_of p) h r c.fraction_bits c.steps (with_means h c.step_exponent c.exponents e) ≤ most →
    (q : ℤ) (t w : ℕ → ℤ) → pos 0 <ℤ q → IsFeasible (design_of p) q (at xi) t → InBox (rows (design_of p)) (pos (2 * r) *ℤ q) w →
    FastRunBoundFor (design_of p) c xi q t w most

-- by the stated errors it has it with E(f)
abbrev pub FastStatedRunLaw : Type 0
FastStatedRunLaw = (p : DesignParts) (h : Form) (r : ℕ) (c : Numbers) (xi : List ℤ) → IsFastRunFor p h r c xi →
    (q : ℤ) (t w : ℕ → ℤ) → pos 0 <ℤ q → IsFeasible (design_of p) q (at xi) t → InBox (rows (design_of p)) (pos (2 * r) *ℤ q) w →
    FastRunBoundFor (design_of p) c xi q t w (epsilon (run_sums_of (design_of p) h r c.steps c.step_exponent c.exponents) c.fraction_bits)
