-- What the residuals that a controller's gains really leave promise: the errors of its steps, what they cost, and so a bound of each step and of a run.
use Rattle.std.specs.Prelude.{ℕ, ◌*◌, ◌≤◌, ℤ, pos, ◌*ℤ◌, ◌<ℤ◌, List}
use Rattle.integer_algebra.specs.Sums.{at}
use Rattle.qp_model.specs.method.Dual.{InBox}
use Rattle.qp_model.specs.problem.Design.{rows}
use Rattle.qp_model.specs.problem.Parts.{IsDesign, design_of}
use Rattle.qp_model.specs.form.Form.{Form, IsFormFor}
use Rattle.qp_model.specs.problem.Residual.{IsFeasible}
use Rattle.qp_model.specs.machine.Controller.{Numbers}
use Rattle.qp_model.specs.bounds.Built.{IsDerivedFrom}
use Rattle.qp_model.specs.bounds.Errors.{error_sums_of, epsilon}
use Rattle.qp_model.specs.bounds.RealErrors.{real_errors, real_cost}
use Rattle.qp_model.specs.declared.design_parts.DesignParts.{DesignParts}
use Rattle.step_error.specs.MachineLaws.{IsRunOf, HasErrors, MachineStepBound, MachineRunBound}

-- each step has these errors
abbrev pub RealCarriedLaw : Type 0
RealCarriedLaw = (p : DesignParts) (h : Form) (r : ℕ) (c : Numbers) (xi : List ℤ) → IsRunOf p h r c xi → (k : ℕ) →
    HasErrors (design_of p) h r c xi k (real_errors (design_of p) h r c)

-- they cost no more than the stated ones: E' is at most E(f)
abbrev pub RealCostLaw : Type 0
RealCostLaw = (p : DesignParts) (h : Form) (r : ℕ) (c : Numbers) → IsDesign p → IsFormFor (design_of p) h → IsDerivedFrom (design_of p) h r c →
    real_cost (design_of p) h r c ≤ epsilon (error_sums_of (design_of p) h r) c.fraction_bits

-- each step has its bound by them
abbrev pub RealStepLaw : Type 0
RealStepLaw = (p : DesignParts) (h : Form) (r : ℕ) (c : Numbers) (xi : List ℤ) → IsRunOf p h r c xi → (k : ℕ) →
    (q : ℤ) (t w : ℕ → ℤ) → pos 0 <ℤ q → IsFeasible (design_of p) q (at xi) t → InBox (rows (design_of p)) (pos (2 * r) *ℤ q) w →
    MachineStepBound (design_of p) c xi k q t w (real_cost (design_of p) h r c)

-- and so has a whole run
abbrev pub RealRunLaw : Type 0
RealRunLaw = (p : DesignParts) (h : Form) (r : ℕ) (c : Numbers) (xi : List ℤ) → IsRunOf p h r c xi →
    (q : ℤ) (t w : ℕ → ℤ) → pos 0 <ℤ q → IsFeasible (design_of p) q (at xi) t → InBox (rows (design_of p)) (pos (2 * r) *ℤ q) w →
    MachineRunBound (design_of p) c xi q t w (real_cost (design_of p) h r c)
