-- What a controller and its bounds are made with beside their design, and what these then are.
use Rattle.std.specs.Prelude.{◌≡◌, ℕ, ◌+◌, ◌*◌, ◌^◌, ◌≤◌, ℤ, pos, ◌≤ℤ◌, unsigned_abs, Option, Some, None, Result, IfOk, IfErr, OnOk, ⊤}
use Rattle.std.specs.Option.{is_some}
use Rattle.qp_model.specs.form.Class.{form_of}
use Rattle.qp_model.specs.problem.Parts.{design_of}
use Rattle.qp_model.specs.bounds.Choices.{row_violation_bound, lean_row_violation}
use Rattle.qp_model.specs.bounds.RealErrors.{real_cost}
use Rattle.qp_model.specs.machine.Controller.{Numbers}
use Rattle.qp_model.specs.declared.design_parts.DesignParts.{DesignParts}
use Rattle.qp_model.specs.bounds.Printed.{Printed, printed}
use Rattle.qp_model.specs.declared.bounds.Margin.{Margin}
use Rattle.qp_model.specs.declared.refusal.Refusal.{Refusal}
use Rattle.dual_bounds.specs.FastSteps.{quarter_steps}
use Rattle.design_engine.specs.Targets.{Targets}
use Rattle.design_engine.specs.Aims.{aim_of, IsAim, IsMadeWith}
use Rattle.design_engine.specs.Tests.{IsRefusedFor}
use Rattle.design_engine.specs.Bounds.{AreBoundsWith, stated_cost}
use Rattle.design_engine.specs.declared.bounds.Run.{Run}
use Rattle.design_engine.specs.declared.bounds.Terms.{Terms}
use Rattle.design_engine.specs.declared.generation.Made.{Made}

-- by how much a row with the step exponent e is exceeded at most, over 2^40
abbrev pub row_bound : Option ℤ → (e s r k eps : ℕ) → ℕ
row_bound None e s r k eps = row_violation_bound e s r k eps
row_bound (Some target) e s r k eps = lean_row_violation e r k eps (unsigned_abs target)

-- the violation of the plans that a repair is known for: that of all rows, or the target
abbrev pub repaired : Option ℤ → ℕ → ℕ
repaired None violation = violation
repaired (Some target) violation = unsigned_abs target

-- a target is not negative
abbrev pub IsTarget : Option ℤ → Type 0
IsTarget None = ⊤
IsTarget (Some target) = pos 0 ≤ℤ target

-- the numbers of a run lie in their ranges
pub record IsRunWithin (x : Run) : Type 0 where
  pub exponent : x.s ≤ 42
  pub some : pos 1 ≤ℤ x.r
  pub narrow : 2 ^ x.s * unsigned_abs x.r ≤ 2 ^ 84
  pub steps : 1 ≤ x.k
  pub errors : pos 0 ≤ℤ x.eps
  pub small : x.eps ≤ℤ pos (2 ^ 114)
  pub target : IsTarget x.target

-- those of a run of the accelerated machine
pub record IsFastRunWithin (x : Run) : Type 0 where
  pub exponent : x.s ≤ 40
  pub some : pos 1 ≤ℤ x.r
  pub narrow : x.r ≤ℤ pos (2 ^ 42)
  pub steps : 1 ≤ x.k
  pub few : x.k ≤ 65534
  pub errors : pos 0 ≤ℤ x.eps
  pub small : x.eps ≤ℤ pos (2 ^ 114)
  pub target : IsTarget x.target

-- after which a row with the step exponent e is exceeded by at most this: as after k (k + 3) steps of the plain machine with exponents that are greater by two
abbrev pub fast_row_bound : Run → (e : ℕ) → ℕ
fast_row_bound x e = row_bound x.target (e + 2) (x.s + 2) (unsigned_abs x.r) (quarter_steps x.k) (unsigned_abs x.eps)

-- so do those of terms, and R times the target of the steps is at least that of the errors
pub record AreTerms (x : Terms) : Type 0 where
  pub aim : IsAim x.aim
  pub share : unsigned_abs x.aim.error_target ≤ unsigned_abs x.aim.r * unsigned_abs x.aim.step_target
  pub steps : unsigned_abs x.aim.step_target ≤ 2 ^ 71
  pub target : IsTarget x.target
  pub short : repaired x.target 0 ≤ 2 ^ 71

-- what the targets ask for with a margin, of a controller that is not lean
abbrev pub plain_terms : Targets → Margin → Terms
plain_terms t m = record { aim = aim_of t m; units = m.units; cost = m.cost; target = None }

-- ---- what is made
-- the violation of a row with the step exponent e, where the errors of a step cost so much
abbrev pub violation_by : Terms → Numbers → (cost e : ℕ) → ℕ
violation_by x c cost e = row_bound x.target e c.step_exponent (unsigned_abs x.aim.r) c.steps cost

abbrev pub repaired_by : Terms → Numbers → (cost : ℕ) → ℕ
repaired_by x c cost = repaired x.target (violation_by x c cost c.step_exponent)

-- the undercut lies in its range
abbrev pub HasUndercutRoom : Terms → Numbers → (cost : ℕ) → Type 0
HasUndercutRoom x c cost = unsigned_abs x.aim.r * repaired_by x c cost ≤ 2 ^ 126

-- the bounds print the terms and the controller
pub record ArePrintedOf (x : Terms) (c : Numbers) (cost : ℕ) (b : Printed) : Type 0 where
  pub units : b.margin ≡ x.units
  pub corners : b.cost ≡ x.cost
  pub lean : b.lean ≡ is_some x.target
  pub bounds : AreBoundsWith c b (unsigned_abs x.aim.r) cost (violation_by x c cost c.step_exponent) (violation_by x c cost) (repaired_by x c cost)

-- what is made of a design with these terms
pub record IsMadeBy (p : DesignParts) (x : Terms) (m : Made) : Type 0 where
  pub controller : IsMadeWith p x.aim m.controller
  pub bounds : ArePrintedOf x m.controller (real_cost (design_of p) (form_of (design_of p)) (unsigned_abs x.aim.r) m.controller) (printed m.bounds)
  pub errors : m.eps ≡ pos (stated_cost (design_of p) (unsigned_abs x.aim.r) m.controller.fraction_bits)

-- what an answer tells: what is made, that the tests are passed where something is, and the cause of a refusal
pub record Tells (is : Made → Type 0) (passed : Type 0) (cause : Refusal → Type 0) (r : Result Made Refusal) : Type 0 where
  pub made : IfOk r is
  pub passes : OnOk r passed
  pub refused : IfErr r (IsRefusedFor cause)
