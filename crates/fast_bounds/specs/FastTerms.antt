-- What a controller of the accelerated machine and its bounds are made with beside their design, and what these then are.
use Rattle.std.specs.Prelude.{◌≡◌, ℕ, ◌+◌, ◌*◌, ◌^◌, ◌≤◌, List, pos, unsigned_abs}
use Rattle.std.specs.Option.{is_some}
use Rattle.qp_model.specs.form.Class.{form_of}
use Rattle.qp_model.specs.form.Curvature.{AreExponents}
use Rattle.qp_model.specs.problem.Design.{Design}
use Rattle.qp_model.specs.problem.Parts.{design_of}
use Rattle.qp_model.specs.machine.Controller.{Numbers}
use Rattle.qp_model.specs.bounds.Printed.{Printed}
use Rattle.qp_model.specs.declared.design_parts.DesignParts.{DesignParts}
use Rattle.step_error.specs.ErrorSums.{AreSums, sums_of}
use Rattle.step_error.specs.CarriedErrors.{run_sums_of}
use Rattle.step_error.specs.RunSums.{run_error_size}
use Rattle.dual_bounds.specs.FastSteps.{quarter_steps}
use Rattle.lean_engine.specs.Engine.RowExponents.{exponent_in, AreExponentsOf}
use Rattle.overflow_check.specs.FastController.{most_fast_steps}
use Rattle.lean_engine.specs.Engine.Bounds.{AreBoundsWith}
use Rattle.lean_engine.specs.Engine.Terms.{row_bound, repaired}
use Rattle.lean_engine.specs.Engine.declared.aimed.Aim.{Aim}
use Rattle.lean_engine.specs.Engine.declared.bounds.Terms.{Terms}
use Rattle.fast_bounds.specs.FastRefusals.{AreStepsFor, AreFastBitsOf, fast_stated_cost}
use Rattle.fast_bounds.specs.declared.numbers.RunNumbers.{RunNumbers}

-- ---- the numbers of a run
-- its steps, the exponents of its rows and its bits are those of the aim, with the step exponent s
pub record PassesFastBits (d : Design) (a : Aim) (s k : ℕ) (es : List ℕ) (f : ℕ) : Type 0 where
  pub steps : AreStepsFor a s k
  pub few : k ≤ most_fast_steps
  pub exponents : AreExponentsOf d s es
  pub curved : AreExponents d (exponent_in es) s
  pub error : run_error_size d (form_of d) (unsigned_abs a.r) k s es ≤ 2 ^ 126
  pub choice : AreFastBitsOf d a s k es f

-- so are the numbers that are chosen, with the sums of the errors
pub record AreRunNumbersOf (p : DesignParts) (a : Aim) (s k : ℕ) (exponents : List ℕ) (n : RunNumbers) : Type 0 where
  pub passes : PassesFastBits (design_of p) a s k exponents n.choice.f
  pub sums : sums_of n.sums ≡ run_sums_of (design_of p) (form_of (design_of p)) (unsigned_abs a.r) k s exponents
  pub given : AreSums n.sums
  pub cost : n.choice.eps ≡ pos (fast_stated_cost (design_of p) (unsigned_abs a.r) s k exponents n.choice.f)

-- ---- the bounds
-- the violation of a row with the step exponent e, where the errors of a run cost so much
abbrev pub fast_violation_by : Terms → Numbers → (cost e : ℕ) → ℕ
fast_violation_by x c cost e = row_bound x.target (e + 2) (c.step_exponent + 2) (unsigned_abs x.aim.r) (quarter_steps c.steps) cost

abbrev pub fast_repaired_by : Terms → Numbers → (cost : ℕ) → ℕ
fast_repaired_by x c cost = repaired x.target (fast_violation_by x c cost c.step_exponent)

-- the undercut lies in its range
abbrev pub HasFastUndercutRoom : Terms → Numbers → (cost : ℕ) → Type 0
HasFastUndercutRoom x c cost = unsigned_abs x.aim.r * fast_repaired_by x c cost ≤ 2 ^ 126

-- the bounds print the terms and the controller
pub record AreFastPrintedOf (x : Terms) (c : Numbers) (cost : ℕ) (b : Printed) : Type 0 where
  pub units : b.margin ≡ x.units
  pub corners : b.cost ≡ x.cost
  pub lean : b.lean ≡ is_some x.target
  pub bounds : AreBoundsWith c b (unsigned_abs x.aim.r) cost (fast_violation_by x c cost c.step_exponent) (fast_violation_by x c cost) (fast_repaired_by x c cost)
