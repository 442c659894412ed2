-- Why a controller of the accelerated machine keeps the whole promise of its bounds.
use Rattle.std.proofs.Common.{◌≡◌, ℕ, ◌+◌, ◌*◌, ◌^◌, ◌≤◌, min, ℤ, List, length, unsigned_abs, arith, sym, refl}
use Rattle.std.proofs.lemmas.Nat.{pow_pos}
use Rattle.std.proofs.Math.Nat.{mul-le-mul_left, one-le-mul}
use Rattle.integer_algebra.specs.Sums.{at}
use Rattle.integer_algebra.specs.Division.{ceil_div}
use Rattle.integer_algebra.proofs.AmountLaws.{amount_mono}
use Rattle.integer_algebra.proofs.DivisionLaws.{le-mul-ceil_div}
use Rattle.qp_model.specs.problem.Design.{Design, entries}
use Rattle.qp_model.specs.problem.Parts.{IsDesign, design_of}
use Rattle.qp_model.specs.problem.Policy.{Plans}
use Rattle.qp_model.specs.problem.Box.{IsGridState}
use Rattle.qp_model.specs.form.Class.{form_of}
use Rattle.qp_model.specs.form.Form.{Form, IsFormFor}
use Rattle.qp_model.specs.form.Quantities.{input_floor}
use Rattle.qp_model.specs.machine.Controller.{Numbers}
use Rattle.qp_model.specs.machine.Machine.{exponent_of}
use Rattle.qp_model.specs.bounds.Built.{IsDerivedFrom}
use Rattle.qp_model.specs.bounds.Errors.{StepErrors, gradient_error, first_cost, plan_bound, error_sums_of, epsilon}
use Rattle.qp_model.specs.bounds.RealErrors.{real_gradient, real_plan, real_errors}
use Rattle.qp_model.specs.bounds.Printed.{Printed}
use Rattle.qp_model.specs.declared.design_parts.DesignParts.{DesignParts}
use Rattle.step_error.proofs.Ceilings.{ceil_rises}
use Rattle.step_error.proofs.FallingLaws.{squares_rise, errors_cost_rises}
use Rattle.step_error.proofs.RealCosts.{real_gradient_le, plan_le}
use Rattle.lean_engine.specs.Engine.Targets.{targets_of, violation_target, step_target, rest_target, gap_target}
use Rattle.lean_engine.specs.Engine.Threshold.{HasRepairs, IsEnoughOf}
use Rattle.lean_engine.specs.Engine.declared.aimed.Aim.{Aim}
use Rattle.lean_engine.proofs.Engine.FormLaws.{form_law}
use Rattle.lean_engine.proofs.Engine.TargetLaws.{some_of, step_some, shares_fit, shares_enough, above_targets}
use Rattle.lean_engine.proofs.Engine.RunPromise.{Point, left_kept, threshold_kept}
use Rattle.lean_engine.proofs.Engine.PromiseLaws.{sound, repairs_above}
use Rattle.lean_engine.specs.Lean.{bound_of, lean_aim}
use Rattle.lean_engine.proofs.LeanFacts.{bound_some}
use Rattle.lean_engine.proofs.LeanLaws.{corners}
use Rattle.overflow_check.specs.FastMachine.{fast_denominator, fast_plan}
use Rattle.fast_machine.specs.FastValues.{FastRunFits}
use Rattle.fast_machine.proofs.FastBelow.{values_law}
use Rattle.fast_machine.proofs.FastSums.{one_weight}
use Rattle.step_error.specs.CarriedErrors.{carry_of, mean_error, run_sums_of}
use Rattle.fast_bounds.specs.FastDesign.{IsFastRunFor}
use Rattle.dual_bounds.specs.FastSteps.{quarter_steps}
use Rattle.fast_bounds.specs.FastCertified.{cost_for, IsFastSupported, FastCertifiedLaw, IsFastMadeWith, IsFastBuilt, FastLeanLaw}
use Rattle.fast_bounds.proofs.PlanErrors.{admissible}
use Rattle.fast_bounds.proofs.FastDesignRuns.{fast_carried, fast_design_run}

-- ---- a run
module _ (p : DesignParts) (h : Form) (e : StepErrors) (c : Numbers) (r threshold : ℕ) (supported : IsFastSupported p h e c r threshold)
    (xi : List ℤ) (long : length xi ≡ (design_of p).states) (inside : IsGridState (design_of p) (at xi)) where
  steps_some : 1 ≤ c.steps
  steps_some = supported.controller.form.sized.steps.0

  run_for : IsFastRunFor p h r c xi
  run_for = record {
    design = supported.design;
    bound = supported.some;
    form = supported.form;
    controller = supported.controller;
    made = supported.made;
    long = long;
    inside = inside;
  }

  -- the averaged plan, with what its bounds rest on
  abbrev point : Point
  point = record {
    design = design_of p;
    xi = at xi;
    steps = quarter_steps c.steps;
    greatest = c.step_exponent + 2;
    exponent = λ i. exponent_of c i + 2;
    a = fast_denominator c;
    u = at (fast_plan c xi);
    bound = r;
    threshold = threshold;
    errors = cost_for p h r c e;
    sound = sound p supported.design;
    inside = inside;
    steps_some = one-le-mul steps_some (omega arith);
    a_some = one-le-mul (one_weight 0 c.steps steps_some) (pow_pos c.fraction_bits);
    bound_some = supported.some;
    exponents = λ i l. omega (arith, supported.made.exponents.bounded i l);
    run = fast_design_run p h r c xi run_for e (cost_for p h r c e) (supported.errors xi long inside) (omega arith);
    repairs = supported.repairs;
  }

  values : FastRunFits c.width c xi
  values = values_law c xi supported.controller (admissible (design_of p) c xi supported.made.sizes long inside)

pub certified_law : FastCertifiedLaw
certified_law = record {
  above = λ p h e c b r threshold supported enough bounds xi long inside. record {
    values = rw bounds.width (values p h e c r threshold supported xi long inside);
    steps = sym bounds.steps;
    plan = threshold_kept (point p h e c r threshold supported xi long inside) b enough
        (λ i l. bounds.row_violations i (omega (arith, l, supported.made.sizes.rows))) bounds.violation bounds.gap bounds.undercut;
  };
  all = λ p h e c b r supported bounds xi long inside. record {
    values = rw bounds.width (values p h e c r 0 supported xi long inside);
    steps = sym bounds.steps;
    plan = left_kept (point p h e c r 0 supported xi long inside) b refl
        (λ i l. bounds.row_violations i (omega (arith, l, supported.made.sizes.rows))) bounds.violation bounds.gap bounds.undercut;
  };
}

-- ---- the errors that the gains leave cost no more than the stated ones
real_cost_le : (p : DesignParts) (h : Form) (r : ℕ) (c : Numbers) → IsDesign p → IsFormFor (design_of p) h → IsDerivedFrom (design_of p) h r c →
    cost_for p h r c (real_errors (design_of p) h r c) ≤ epsilon (run_sums_of (design_of p) h r c.steps c.step_exponent c.exponents) c.fraction_bits
real_cost_le p h r c design form made =
    let d = design_of p in
    errors_cost_rises (run_sums_of d h r c.steps c.step_exponent c.exponents)
    (carry_of c.steps * first_cost d (λ j. real_gradient d h r c j + mean_error h c.step_exponent c.exponents j))
    (carry_of c.steps * first_cost d (λ j. gradient_error d h r j + mean_error h c.step_exponent c.exponents j))
    (real_plan d h r c) (plan_bound (error_sums_of d h r) c.fraction_bits) c.fraction_bits
    (mul-le-mul_left (carry_of c.steps) (ceil_rises _ _ (2 * input_floor d) (mul-le-mul_left d.cost_denominator
    (amount_mono (entries d) _ _ (λ j l. squares_rise (more (mean_error h c.step_exponent c.exponents j) (real_gradient_le p h r c design form made j l)))))))
    (plan_le d h r c)
  where
    more : {a b : ℕ} (t : ℕ) → a ≤ b → a + t ≤ b + t
    more {a} {b} t h = omega (arith, h)

pub real_within : (p : DesignParts) (a : Aim) (c : Numbers) → IsFastMadeWith p a c →
    cost_for p (form_of (design_of p)) (unsigned_abs a.r) c (real_errors (design_of p) (form_of (design_of p)) (unsigned_abs a.r) c) ≤
    epsilon (run_sums_of (design_of p) (form_of (design_of p)) (unsigned_abs a.r) c.steps c.step_exponent c.exponents) c.fraction_bits
real_within p a c h = real_cost_le p (form_of (design_of p)) (unsigned_abs a.r) c h.design (form_law p h.design h.narrow) h.made

pub cost_limited : (p : DesignParts) (a : Aim) (c : Numbers) → IsFastMadeWith p a c →
    cost_for p (form_of (design_of p)) (unsigned_abs a.r) c (real_errors (design_of p) (form_of (design_of p)) (unsigned_abs a.r) c) ≤ unsigned_abs a.error_target
cost_limited p a c h = omega (arith, real_within p a c h, h.bits.within)

-- made with an aim, where repairs are known for a threshold
pub supported_with : (p : DesignParts) (a : Aim) (c : Numbers) (threshold : ℕ) → 1 ≤ unsigned_abs a.r → IsFastMadeWith p a c →
    HasRepairs (design_of p) (unsigned_abs a.r) threshold →
    IsFastSupported p (form_of (design_of p)) (real_errors (design_of p) (form_of (design_of p)) (unsigned_abs a.r) c) c (unsigned_abs a.r) threshold
supported_with p a c threshold some h repairs = record {
  design = h.design;
  some = some;
  form = formed;
  controller = h.controller;
  made = h.made;
  errors = λ xi long inside. fast_carried.real p (form_of (design_of p)) (unsigned_abs a.r) c xi (record {
    design = h.design;
    bound = some;
    form = formed;
    controller = h.controller;
    made = h.made;
    long = long;
    inside = inside;
  });
  repairs = repairs;
}
  where
    formed : IsFormFor (design_of p) (form_of (design_of p))
    formed = form_law p h.design h.narrow

-- ---- made for a design, a policy and reference plans
module _ (p : DesignParts) (plans references : Plans) (c : Numbers) (b : Printed) (h : IsFastBuilt p plans references c b) where
  abbrev d : Design
  d = design_of p

  abbrev units : ℕ
  units = unsigned_abs b.margin

  abbrev excess : ℕ
  excess = unsigned_abs b.cost

  abbrev r : ℕ
  r = bound_of (targets_of p) units excess

  abbrev t : ℕ
  t = violation_target (targets_of p)

  abbrev form : Form
  form = form_of d

  abbrev cost : ℕ
  cost = cost_for p form r c (real_errors d form r c)

  some : 1 ≤ r
  some = bound_some (targets_of p) units excess

  cheap : cost ≤ min (gap_target (targets_of p)) (r * rest_target (targets_of p))
  cheap = cost_limited p (lean_aim (targets_of p) units excess) c h.made

  supported : IsFastSupported p form (real_errors d form r c) c r t
  supported = supported_with p (lean_aim (targets_of p) units excess) c t some h.made (repairs_above p plans units excess h.made.design h.policy
      (corners p plans references b h.greatest_cost h.made.design h.made.narrow h.policy h.reference h.margin h.slack h.excess) (some_of b.margin h.slack))

  enough : IsEnoughOf (quarter_steps c.steps) (c.step_exponent + 2) r t cost
  enough = shares_enough (c.step_exponent + 2) r cost (quarter_steps c.steps) t (step_target (targets_of p)) (rest_target (targets_of p))
      (through (step_target (targets_of p)) (le-mul-ceil_div (2 ^ (c.step_exponent + 2 + 41) * r) (step_target (targets_of p)) (step_some p h.made.design)) h.made.steps.enough)
      (omega (arith, cheap))
      (shares_fit (unsigned_abs p.violation) (unsigned_abs p.target_den) (some_of p.target_den h.made.design.target_den.low))
    where
      through : (m : ℕ) {a q k : ℕ} → a ≤ m * q → q ≤ k → a ≤ m * k
      through m h l = omega (arith, h, mul-le-mul_left m l)

pub lean_law : FastLeanLaw
lean_law p plans references c b h = record {
  certified = certified_law.above p (form_of (design_of p)) (real_errors (design_of p) (form_of (design_of p)) (r p plans references c b h) c) c b (r p plans references c b h) (t p plans references c b h)
      (supported p plans references c b h) (enough p plans references c b h) h.bounds;
  within = above_targets p h.made.design c b (r p plans references c b h) (cost p plans references c b h) _
      (λ e. ceil_div (violation_target (targets_of p)) 2 + ceil_div (2 ^ (e + 2 + 40) * r p plans references c b h) (quarter_steps c.steps)
      + ceil_div (cost p plans references c b h) (2 * r p plans references c b h))
      h.bounds (omega (arith, cheap p plans references c b h));
}
