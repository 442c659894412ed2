-- What a design and a policy leave open of a controller that is built for them.
use Rattle.std.specs.Prelude.{◌≡◌}
use Rattle.qp_model.specs.problem.Policy.{Plans}
use Rattle.qp_model.specs.machine.Controller.{Numbers}
use Rattle.qp_model.specs.declared.design_parts.DesignParts.{DesignParts}
use Rattle.qp_model.specs.bounds.Printed.{Printed}
use Rattle.design_engine.specs.Built.{IsBuilt}

-- the two have the same gains
pub record HaveSameGains (c other : Numbers) : Type 0 where
  pub state_gains : c.state_gains ≡ other.state_gains
  pub offsets : c.offsets ≡ other.offsets
  pub dual_gains : c.dual_gains ≡ other.dual_gains

-- all is the same
pub record AreIdentical (c other : Numbers) (b other_bounds : Printed) : Type 0 where
  pub numbers : c ≡ other
  pub bounds : b ≡ other_bounds

-- With the gains and the width of the other, the controller is the other. With the other's width, violations, gap and undercut, so are the bounds: the
-- version, the margin, that they aren't lean, the cost, R, the step, the steps, the bits and the words are the same. And the width and these follow from the gains.
pub record AgreeButGains (c other : Numbers) (b other_bounds : Printed) : Type 0 where
  pub numbers : record c { state_gains = other.state_gains; offsets = other.offsets; dual_gains = other.dual_gains; width = other.width } ≡ other
  pub bounds : record b {
    width = other_bounds.width;
    violation = other_bounds.violation;
    row_violations = other_bounds.row_violations;
    gap = other_bounds.gap;
    undercut = other_bounds.undercut;
  } ≡ other_bounds
  pub followed : HaveSameGains c other → AreIdentical c other b other_bounds

-- all else is a function of the design and the policy
abbrev pub AgreementLaw : Type 0
AgreementLaw = (p : DesignParts) (plans : Plans) (c other : Numbers) (b other_bounds : Printed) →
    IsBuilt p plans c b → IsBuilt p plans other other_bounds → AgreeButGains c other b other_bounds
