-- A controller and its bounds as they are made of a design and a policy.
use Rattle.std.specs.Prelude.{◌≡◌, pos, ◌≤ℤ◌, false}
use Rattle.qp_model.specs.form.Class.{form_of}
use Rattle.qp_model.specs.problem.Parts.{design_of}
use Rattle.qp_model.specs.problem.Policy.{Plans, IsPolicyFor}
use Rattle.qp_model.specs.bounds.CornerClass.{IsMargin}
use Rattle.qp_model.specs.bounds.RealErrors.{real_cost}
use Rattle.qp_model.specs.machine.Controller.{Numbers}
use Rattle.qp_model.specs.declared.design_parts.DesignParts.{DesignParts}
use Rattle.qp_model.specs.bounds.Printed.{Printed, printed}
use Rattle.design_engine.specs.Targets.{targets_of}
use Rattle.design_engine.specs.Aims.{aim_of, IsMadeWith}
use Rattle.design_engine.specs.Bounds.{margin_of, printed_multiplier, stated_cost, AreBoundsOf}
use Rattle.design_engine.specs.declared.generation.Made.{Made}

-- the controller and the bounds are those of a design and a policy: the steps and the bits rest on the stated errors of a step, and the bounds on those
-- that the controller's gains leave
pub record IsBuilt (p : DesignParts) (plans : Plans) (c : Numbers) (b : Printed) : Type 0 where
  pub policy : IsPolicyFor (design_of p) plans
  pub margin : IsMargin (design_of p) plans (margin_of b)
  pub slack : pos 1 ≤ℤ b.margin
  pub made : IsMadeWith p (aim_of (targets_of p) (margin_of b)) c
  pub lean : b.lean ≡ false
  pub bounds : AreBoundsOf c b (real_cost (design_of p) (form_of (design_of p)) (printed_multiplier b) c)

-- so is what is made, with what is stated of the errors of its steps
pub record IsBuiltAs (p : DesignParts) (plans : Plans) (m : Made) : Type 0 where
  pub built : IsBuilt p plans m.controller (printed m.bounds)
  pub errors : m.eps ≡ pos (stated_cost (design_of p) (printed_multiplier (printed m.bounds)) m.controller.fraction_bits)
