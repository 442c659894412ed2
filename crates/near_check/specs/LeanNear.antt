-- That plans of a controller that was made leanly are near the law's, by any policy's excess.
use Rattle.std.specs.Prelude.{◌≡◌, ℕ, ◌^◌, ◌<◌, ◌≤◌, ℤ, pos, List, length, unsigned_abs}
use Rattle.integer_algebra.specs.Sums.{at}
use Rattle.qp_model.specs.problem.Design.{rows}
use Rattle.qp_model.specs.problem.Parts.{design_of}
use Rattle.qp_model.specs.problem.Box.{IsGridState}
use Rattle.qp_model.specs.problem.Policy.{Plans, IsPolicyFor}
use Rattle.qp_model.specs.form.Class.{form_of}
use Rattle.qp_model.specs.machine.Controller.{Numbers}
use Rattle.qp_model.specs.bounds.Excess.{excess_of}
use Rattle.qp_model.specs.bounds.Margin.{simulated, HasSlack}
use Rattle.qp_model.specs.bounds.RealErrors.{real_errors}
use Rattle.qp_model.specs.bounds.Printed.{Printed}
use Rattle.qp_model.specs.declared.design_parts.DesignParts.{DesignParts}
use Rattle.design_engine.specs.Targets.{targets_of}
use Rattle.lean_engine.specs.Lean.{bound_of, IsLeanBuilt}
use Rattle.near_check.specs.Near.{IsNear, AreFar}

-- R, of the printed margin and excess
abbrev pub lean_bound : DesignParts → Printed → ℕ
lean_bound p b = bound_of (targets_of p) (unsigned_abs b.margin) (unsigned_abs b.cost)

-- The controller and its bounds are made leanly of a design, a policy and references; and distances are far enough for the excess that other references
-- show of a policy, that one or another, whose plans are feasible at their corners.
pub record IsNearLean (p : DesignParts) (plans references : Plans) (c : Numbers) (b : Printed) (others shown_by : Plans) (beta : ℕ → ℕ) : Type 0 where
  pub built : IsLeanBuilt p plans references c b
  pub policy : IsPolicyFor (design_of p) others
  pub reference : IsPolicyFor (design_of p) shown_by
  pub feasible : (k i : ℕ) → 1 ≤ k → k ≤ 2 ^ (design_of p).states → i < rows (design_of p) → HasSlack (simulated (design_of p) others) (pos 0) k i
  pub far : AreFar (design_of p) (form_of (design_of p)) (lean_bound p b) c.fraction_bits (real_errors (design_of p) (form_of (design_of p)) (lean_bound p b) c)
      (unsigned_abs b.gap) (excess_of (design_of p) (form_of (design_of p)) others shown_by) beta

abbrev pub LeanNearLaw : Type 0
LeanNearLaw = (p : DesignParts) (plans references : Plans) (c : Numbers) (b : Printed) (others shown_by : Plans) (beta : ℕ → ℕ) →
    IsNearLean p plans references c b others shown_by beta →
    (xi : List ℤ) → length xi ≡ (design_of p).states → IsGridState (design_of p) (at xi) → IsNear c beta xi
