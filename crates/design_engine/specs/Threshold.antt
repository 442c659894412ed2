-- The promise with a threshold: a repair's cost is known only of plans that exceed some row by more than it.
use Rattle.std.specs.Prelude.{◌≡◌, ℕ, ◌+◌, ◌*◌, ◌^◌, ◌<◌, ◌≤◌, min, ℤ, pos, ◌+ℤ◌, ◌*ℤ◌, ◌≤ℤ◌, ◌<ℤ◌, List, length}
use Rattle.integer_algebra.specs.Sums.{at, square}
use Rattle.qp_model.specs.problem.Design.{Design, rows}
use Rattle.qp_model.specs.problem.Sound.{IsSound}
use Rattle.qp_model.specs.form.Form.{Form, IsFormFor}
use Rattle.qp_model.specs.problem.Parts.{IsDesign, design_of}
use Rattle.qp_model.specs.problem.Policy.{Plans, IsPolicyFor}
use Rattle.qp_model.specs.bounds.Choices.{step_count, lean_multiplier}
use Rattle.qp_model.specs.problem.Box.{IsGridState}
use Rattle.qp_model.specs.problem.Residual.{residual, residual_scale}
use Rattle.qp_model.specs.bounds.Errors.{StepErrors, cost_of_errors}
use Rattle.qp_model.specs.bounds.Built.{IsDerivedFrom}
use Rattle.qp_model.specs.machine.Controller.{Numbers}
use Rattle.qp_model.specs.machine.Machine.{average_denominator, averaged_plan, exponent_of}
use Rattle.qp_model.specs.machine.AbsoluteSums.{IsController}
use Rattle.qp_model.specs.bounds.Certified.{CostsNoMoreThanFeasible, IsCertified}
use Rattle.qp_model.specs.declared.design_parts.DesignParts.{DesignParts}
use Rattle.qp_model.specs.bounds.Printed.{Printed}
use Rattle.step_error.specs.MachineLaws.{HasErrors}
use Rattle.dual_bounds.specs.Corners.{KeepsExcess, ExceedsNoMore, HasRepair}
use Rattle.design_engine.specs.Bounds.{AreThresholdBoundsOf}
use Rattle.design_engine.specs.Targets.{targets_of, gap_target, violation_target, step_target, rest_target, floor_target, IsWithinTargets}

-- ---- repairs
-- At every state of the box a plan that exceeds each row by at most so much, and that is at least threshold / 2^40, has a feasible plan that costs at
-- most r times that more.
abbrev pub HasRepairs : Design → (r threshold : ℕ) → Type 0
HasRepairs d r threshold = (xi : ℕ → ℤ) → IsGridState d xi → (q : ℤ) (u : ℕ → ℤ) → pos 0 <ℤ q →
    (over over_denominator : ℤ) → pos 0 ≤ℤ over → pos 0 <ℤ over_denominator → (pos threshold *ℤ over_denominator) ≤ℤ (over *ℤ pos (2 ^ 40)) →
    ExceedsNoMore d xi q u over over_denominator → HasRepair d xi q u (pos r *ℤ over) over_denominator

-- the excess of the corners' plans, over their slack and a share of the threshold over 2^16, is such an r
abbrev pub RepairsLaw : Type 0
RepairsLaw = (d : Design) (rho : ℕ) (p : Plans) (units excess : ℤ) (r share threshold : ℕ) → IsSound d rho → IsPolicyFor d p → KeepsExcess d p units excess →
    pos 1 ≤ℤ units → excess ≤ℤ (pos r *ℤ (units +ℤ pos share)) → 2 ^ 24 * share ≤ threshold → HasRepairs d r threshold

-- ---- a run
-- what the bounds of a run rest on: a controller that is made for a design by a form of it with multipliers of at most 2 r; bounds on the errors of its
-- steps, at every state of the box; and repairs
pub record IsSupported (p : DesignParts) (h : Form) (e : StepErrors) (c : Numbers) (r threshold : ℕ) : Type 0 where
  pub design : IsDesign p
  pub some : 1 ≤ r
  pub form : IsFormFor (design_of p) h
  pub controller : IsController c
  pub made : IsDerivedFrom (design_of p) h r c
  pub errors : (xi : List ℤ) → length xi ≡ (design_of p).states → IsGridState (design_of p) (at xi) → (k : ℕ) → k < c.steps →
      HasErrors (design_of p) h r c xi k e
  pub repairs : HasRepairs (design_of p) r threshold

-- over / over_denominator is at least the threshold, and at least 2^(s+1) r / k + E / r, which k steps with exponents up to s and errors leave, where
-- these cost at most E
pub record IsCoverOf (k s r threshold cost : ℕ) (over over_denominator : ℤ) : Type 0 where
  pub positive : pos 0 <ℤ over_denominator
  pub nonneg : pos 0 ≤ℤ over
  pub above : (pos threshold *ℤ over_denominator) ≤ℤ (over *ℤ pos (2 ^ 40))
  pub run : ((pos (2 ^ 41) *ℤ pos (2 ^ s) *ℤ square (pos r) +ℤ pos k *ℤ pos cost) *ℤ over_denominator) ≤ℤ (pos (2 ^ 40) *ℤ pos k *ℤ pos r *ℤ over)

abbrev pub IsCover : Numbers → (r threshold cost : ℕ) → (over over_denominator : ℤ) → Type 0
IsCover c = IsCoverOf c.steps c.step_exponent

-- row i is exceeded by at most half of that and 2^s_i r / k + E / (2 r)
abbrev pub ExceedsRow : Design → (k : ℕ) → (exponent : ℕ → ℕ) → (r cost : ℕ) → (xi : ℕ → ℤ) → (q : ℤ) → (u : ℕ → ℤ) → (over over_denominator : ℤ) → ℕ → Type 0
ExceedsRow d k exponent r cost xi q u over over_denominator i =
    (pos (2 ^ 41) *ℤ pos k *ℤ pos r *ℤ over_denominator *ℤ residual d q xi u i) ≤ℤ
    ((pos (2 ^ 40) *ℤ pos k *ℤ pos r *ℤ over +ℤ
    (pos (2 ^ 41) *ℤ pos (2 ^ exponent i) *ℤ square (pos r) +ℤ pos k *ℤ pos cost) *ℤ over_denominator) *ℤ (pos (residual_scale d) *ℤ q))

-- what the averaged plan keeps at a state
pub record KeepsCoverOf (d : Design) (k : ℕ) (exponent : ℕ → ℕ) (r cost : ℕ) (xi : ℕ → ℤ) (q : ℤ) (u : ℕ → ℤ) (over over_denominator : ℤ) : Type 0 where
  pub violation : ExceedsNoMore d xi q u over over_denominator
  pub rows : (i : ℕ) → i < rows d → ExceedsRow d k exponent r cost xi q u over over_denominator i
  pub costs : CostsNoMoreThanFeasible d xi q u (pos cost)
  pub repair : HasRepair d xi q u (pos r *ℤ over) over_denominator

abbrev pub KeepsCover : Design → Numbers → (r cost : ℕ) → (xi : ℕ → ℤ) → (q : ℤ) → (u : ℕ → ℤ) → (over over_denominator : ℤ) → Type 0
KeepsCover d c = KeepsCoverOf d c.steps (exponent_of c)

abbrev pub CoverLaw : Type 0
CoverLaw = (p : DesignParts) (h : Form) (e : StepErrors) (c : Numbers) (r threshold : ℕ) → IsSupported p h e c r threshold →
    (over over_denominator : ℤ) → IsCover c r threshold (cost_of_errors (design_of p) h r c.fraction_bits e) over over_denominator →
    (xi : List ℤ) → length xi ≡ (design_of p).states → IsGridState (design_of p) (at xi) →
    KeepsCover (design_of p) c r (cost_of_errors (design_of p) h r c.fraction_bits e) (at xi) (pos (average_denominator c)) (at (averaged_plan c xi)) over over_denominator

-- ---- bounds within a threshold
-- steps and errors leave at most threshold / 2^40
abbrev pub IsEnoughOf : (k s r threshold cost : ℕ) → Type 0
IsEnoughOf k s r threshold cost = 2 ^ (s + 41) * r * r + k * cost ≤ k * r * threshold

abbrev pub IsEnough : Numbers → (r threshold cost : ℕ) → Type 0
IsEnough c = IsEnoughOf c.steps c.step_exponent

-- so a controller keeps the whole promise of such bounds, at every state of the box
pub record IsBackedAbove (p : DesignParts) (h : Form) (e : StepErrors) (c : Numbers) (b : Printed) (r threshold : ℕ) : Type 0 where
  pub supported : IsSupported p h e c r threshold
  pub enough : IsEnough c r threshold (cost_of_errors (design_of p) h r c.fraction_bits e)
  pub bounds : AreThresholdBoundsOf c b r threshold (cost_of_errors (design_of p) h r c.fraction_bits e)

abbrev pub ThresholdCertifiedLaw : Type 0
ThresholdCertifiedLaw = (p : DesignParts) (h : Form) (e : StepErrors) (c : Numbers) (b : Printed) (r threshold : ℕ) → IsBackedAbove p h e c b r threshold →
    IsCertified (design_of p) c b

-- ---- targets
-- the threshold is the target of the violation, of which the steps and the errors have a share each
pub record IsAimedAbove (p : DesignParts) (cost : ℕ) (c : Numbers) (b : Printed) (r : ℕ) : Type 0 where
  pub design : IsDesign p
  pub some : 1 ≤ r
  pub steps : c.steps ≡ step_count c.step_exponent r (step_target (targets_of p))
  pub errors : cost ≤ min (gap_target (targets_of p)) (r * rest_target (targets_of p))
  pub bounds : AreThresholdBoundsOf c b r (violation_target (targets_of p)) cost

pub record MeetsTargets (p : DesignParts) (cost : ℕ) (c : Numbers) (b : Printed) (r : ℕ) : Type 0 where
  pub enough : IsEnough c r (violation_target (targets_of p)) cost
  pub within : IsWithinTargets (targets_of p) b

abbrev pub ThresholdTargetsLaw : Type 0
ThresholdTargetsLaw = (p : DesignParts) (cost : ℕ) (c : Numbers) (b : Printed) (r : ℕ) → IsAimedAbove p cost c b r → MeetsTargets p cost c b r

-- ---- all of it
-- R, where the target of the violation is the threshold
abbrev pub multiplier_above : DesignParts → (units excess : ℕ) → ℕ
multiplier_above p units excess = lean_multiplier units excess (floor_target (targets_of p))

-- a controller that is made for a design by a form of it, with the slack and the excess of a policy, and the design's targets
pub record IsMadeAbove (p : DesignParts) (plans : Plans) (units excess : ℕ) (h : Form) (e : StepErrors) (c : Numbers) (b : Printed) : Type 0 where
  pub design : IsDesign p
  pub policy : IsPolicyFor (design_of p) plans
  pub corners : KeepsExcess (design_of p) plans (pos units) (pos excess)
  pub slack : 1 ≤ units
  pub form : IsFormFor (design_of p) h
  pub controller : IsController c
  pub made : IsDerivedFrom (design_of p) h (multiplier_above p units excess) c
  pub errors : (xi : List ℤ) → length xi ≡ (design_of p).states → IsGridState (design_of p) (at xi) → (k : ℕ) → k < c.steps →
      HasErrors (design_of p) h (multiplier_above p units excess) c xi k e
  pub aimed : IsAimedAbove p (cost_of_errors (design_of p) h (multiplier_above p units excess) c.fraction_bits e) c b (multiplier_above p units excess)

-- it keeps the whole promise of its bounds, which meet the targets
pub record KeepsPromise (p : DesignParts) (c : Numbers) (b : Printed) : Type 0 where
  pub certified : IsCertified (design_of p) c b
  pub within : IsWithinTargets (targets_of p) b

abbrev pub MadeAboveLaw : Type 0
MadeAboveLaw = (p : DesignParts) (plans : Plans) (units excess : ℕ) (h : Form) (e : StepErrors) (c : Numbers) (b : Printed) → IsMadeAbove p plans units excess h e c b →
    KeepsPromise p c b
