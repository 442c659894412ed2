-- Why a controller that is made for a design keeps the whole promise.
use Rattle.std.proofs.Common.{◌≡◌, ℕ, ◌+◌, ◌*◌, ◌^◌, ◌≤◌, ◌<◌, ℤ, pos, ◌+ℤ◌, ◌*ℤ◌, ◌≤ℤ◌, List, length, unsigned_abs, [], ◌∷◌, arith, ap, refl, sym, ◌∙◌}
use Rattle.std.proofs.lemmas.Int.{ints}
use Rattle.std.proofs.lemmas.Nat.{pow_pos}
use Rattle.std.proofs.lemmas.List.Elements.{All-get_or}
use Rattle.std.proofs.Math.Nat.{one-le-mul, mul-le-mul_left}
use Rattle.integer_algebra.specs.Sums.{at}
use Rattle.integer_algebra.proofs.Quoting.{by_ring, quotes}
use Rattle.integer_algebra.specs.Division.{ceil_div}
use Rattle.integer_algebra.proofs.OrderLaws.{le_of_lt_z, add-le-add_z, le_by, cancel-le_z, mul-le-mul_left_z}
use Rattle.integer_algebra.proofs.DivisionLaws.{le-mul-ceil_div}
use Rattle.qp_model.specs.problem.Design.{Design}
use Rattle.qp_model.specs.problem.Parts.{IsDesign, design_of}
use Rattle.qp_model.specs.problem.Range.{IsPositive}
use Rattle.qp_model.specs.problem.Sound.{IsSound}
use Rattle.qp_model.specs.problem.Box.{IsGridState}
use Rattle.qp_model.specs.problem.Policy.{Plans, IsPolicyFor}
use Rattle.qp_model.specs.bounds.Margin.{BoundsCorners}
use Rattle.qp_model.specs.bounds.CornerClass.{shown, IsMargin}
use Rattle.qp_model.specs.machine.Controller.{Numbers}
use Rattle.qp_model.specs.machine.Machine.{average_denominator, averaged_plan, exponent_of}
use Rattle.qp_model.specs.machine.Machine as machine
use Rattle.qp_model.specs.form.Form.{Form}
use Rattle.qp_model.specs.bounds.Errors.{StepErrors, cost_of_errors}
use Rattle.qp_model.specs.bounds.Built.{HasSizesOf}
use Rattle.qp_model.specs.bounds.Choices.{multiplier_of, lean_multiplier}
use Rattle.qp_model.specs.machine.ValuesMet.{RunFits}
use Rattle.qp_model.specs.declared.bounds.Margin.{Margin}
use Rattle.qp_model.specs.declared.design_parts.DesignParts.{DesignParts}
use Rattle.qp_model.specs.bounds.Printed.{Printed}
use Rattle.overflow_check.proofs.ValuesMet.{values_law}
use Rattle.design_engine.proofs.CornerLaws.{shown_law}
use Rattle.dual_bounds.specs.Corners.{KeepsMargin, KeepsExcess}
use Rattle.dual_bounds.proofs.MixLaws.{repair_law, threshold_law}
use Rattle.step_error.specs.MachineLaws.{MachineRunLaw}
use Rattle.design_engine.specs.Targets.{targets_of, violation_target, floor_target}
use Rattle.design_engine.specs.Bounds.{margin_of}
use Rattle.design_engine.specs.Promise.{IsBacked, CertifiedLaw}
use Rattle.design_engine.specs.Threshold.{HasRepairs, IsSupported, CoverLaw, RepairsLaw, ThresholdCertifiedLaw, multiplier_above, MeetsTargets, MadeAboveLaw}
use Rattle.design_engine.proofs.TargetLaws.{some_of, floor_fits, threshold_targets_law}
use Rattle.design_engine.proofs.RunPromise.{Point, kept_at, left_kept, threshold_kept}

-- ---- a design's numbers
-- each input's weight is at least 1
pub sound : (p : DesignParts) → IsDesign p → IsSound (design_of p) 1
sound p h = record {
  plant_denominator = some_of p.plant_den h.plant_den.low;
  cost_denominator = some_of p.cost_den h.cost_den.low;
  row_denominator = some_of p.row_den h.row_den.low;
  limit_denominator = some_of p.limit_den h.limit_den.low;
  rho_positive = omega arith;
  inputs = h.inputs.0;
  input_weight = λ l o. (All-get_or IsPositive p.input_weights.items l (pos 0) (omega (arith, h.input_count)) h.input_weights).low;
  stage_weight = h.stage_weights;
  final_weight = h.final_weights;
}

-- the machine takes each grid state of the design's box
grid_state : (d : Design) (c : Numbers) (xi : List ℤ) → HasSizesOf d c → length xi ≡ d.states → IsGridState d (at xi) → machine.IsAdmissible c xi
grid_state d c xi s l h = record {
  long = l ∙ sym s.states;
  each = λ i n. (let o : i < d.states = omega (arith, n, s.states) in record {
    low = rw (s.low i o) (h i o).0;
    high = rw (s.high i o) (h i o).1;
  });
}

-- ---- a run
-- the averaged plan of a controller, with what its bounds rest on, at a state of the box
abbrev point : MachineRunLaw → (p : DesignParts) (h : Form) (e : StepErrors) (c : Numbers) (r threshold : ℕ) → IsSupported p h e c r threshold →
    (xi : List ℤ) → length xi ≡ (design_of p).states → IsGridState (design_of p) (at xi) → Point
point run p h e c r threshold supported xi long inside = record {
  design = design_of p;
  xi = at xi;
  steps = c.steps;
  greatest = c.step_exponent;
  exponent = exponent_of c;
  a = average_denominator c;
  u = at (averaged_plan c xi);
  bound = r;
  threshold = threshold;
  errors = cost_of_errors (design_of p) h r c.fraction_bits e;
  sound = sound p supported.design;
  inside = inside;
  steps_some = supported.controller.form.sized.steps.0;
  a_some = one-le-mul supported.controller.form.sized.steps.0 (pow_pos c.fraction_bits);
  bound_some = supported.some;
  exponents = supported.made.exponents.bounded;
  run = run p h r c xi (record {
    design = supported.design;
    bound = supported.some;
    form = supported.form;
    controller = supported.controller;
    made = supported.made;
    long = long;
    inside = inside;
  }) e (cost_of_errors (design_of p) h r c.fraction_bits e) (supported.errors xi long inside) (omega arith);
  repairs = supported.repairs;
}

values_at : (p : DesignParts) (h : Form) (e : StepErrors) (c : Numbers) (r threshold : ℕ) → IsSupported p h e c r threshold →
    (xi : List ℤ) → length xi ≡ (design_of p).states → IsGridState (design_of p) (at xi) → RunFits c.width c xi
values_at p h e c r threshold supported xi long inside = values_law c xi supported.controller (grid_state (design_of p) c xi supported.made.sizes long inside)

pub cover_from : MachineRunLaw → CoverLaw
cover_from run p h e c r threshold supported x y k xi long inside = kept_at (point run p h e c r threshold supported xi long inside) x y k

-- ---- repairs
pub repairs_law : RepairsLaw
repairs_law d rho p units excess r share threshold s f h pu large enough xi inside q u pq over den po pd least =
    threshold_law d rho p units excess r share s f h pu large xi inside q u pq over den po pd
    (lessened (pos share) (pos threshold) den over (whole (2 ^ 24 * share) threshold enough) (le_of_lt_z pd) least)
  where
    whole : (m n : ℕ) → m ≤ n → pos m ≤ℤ pos n
    whole m n l = omega (arith, ints, l)

    lessened : (s t d v : ℤ) → (pos (2 ^ 24) *ℤ s) ≤ℤ t → pos 0 ≤ℤ d → (t *ℤ d) ≤ℤ (v *ℤ pos (2 ^ 40)) → (s *ℤ d) ≤ℤ (v *ℤ pos (2 ^ 16))
    lessened s t d v h pd k = cancel-le_z (pos (2 ^ 24)) _ _ (omega (arith, ints)) (le_by (add-le-add_z (mul-le-mul_left_z d pd h) k)
        (by_ring (s ∷ t ∷ d ∷ v ∷ []) (search quotes depth 60 fits 20000) refl))

-- the corners truly have a margin that is shown of them, since that is no more than they have
kept : (p : DesignParts) (plans : Plans) (m : Margin) → IsDesign p → IsPolicyFor (design_of p) plans → IsMargin (design_of p) plans m → KeepsMargin (design_of p) plans m
kept p plans m design policy margin = record {
  slacks = λ k i first last inside. bounds.slacks m.units k i first last inside (margin.slacks k i first last inside);
  costs = λ k first last. bounds.costs m.cost k first last (margin.costs k first last);
}
  where
    bounds : BoundsCorners (design_of p) plans (shown (design_of p) plans)
    bounds = shown_law (design_of p) 1 plans (sound p design) policy

-- so repairs cost at most R times what exceeds any row
pub margin_repairs : (p : DesignParts) (plans : Plans) (m : Margin) → IsDesign p → IsPolicyFor (design_of p) plans → IsMargin (design_of p) plans m →
    pos 1 ≤ℤ m.units → HasRepairs (design_of p) (multiplier_of m) 0
margin_repairs p plans m design policy margin slack = λ xi inside q u pq over den po pd least.
    repair_law (design_of p) 1 plans m (sound p design) policy (kept p plans m design policy margin) slack xi inside q u pq over den po pd

-- and what the promise rests on supports a run, with no threshold
supported_by : (p : DesignParts) (plans : Plans) (h : Form) (e : StepErrors) (c : Numbers) (b : Printed) → IsBacked p plans h e c b →
    IsSupported p h e c (multiplier_of (margin_of b)) 0
supported_by p plans h e c b backed = record {
  design = backed.design;
  some = omega arith;
  form = backed.form;
  controller = backed.controller;
  made = backed.made;
  errors = backed.errors;
  repairs = margin_repairs p plans (margin_of b) backed.design backed.policy backed.margin backed.slack;
}

pub certified_from : MachineRunLaw → CertifiedLaw
certified_from run p plans h e c b backed xi long inside =
    let supported = supported_by p plans h e c b backed in
    let bounds = backed.bounds in
    record {
      values = rw bounds.width (values_at p h e c (multiplier_of (margin_of b)) 0 supported xi long inside);
      steps = sym bounds.steps;
      plan = left_kept (point run p h e c (multiplier_of (margin_of b)) 0 supported xi long inside) b refl
          (λ i l. bounds.row_violations i (omega (arith, l, backed.made.sizes.rows))) bounds.violation bounds.gap
          (bounds.undercut ∙ ap (λ (z : ℤ). pos (multiplier_of (margin_of b) * unsigned_abs z)) bounds.violation);
    }

-- ---- the promise with a threshold
pub threshold_certified_from : MachineRunLaw → ThresholdCertifiedLaw
threshold_certified_from run p h e c b r threshold backed xi long inside =
    let bounds = backed.bounds in
    record {
      values = rw bounds.width (values_at p h e c r threshold backed.supported xi long inside);
      steps = sym bounds.steps;
      plan = threshold_kept (point run p h e c r threshold backed.supported xi long inside) b backed.enough
          (λ i l. bounds.row_violations i (omega (arith, l, backed.supported.made.sizes.rows))) bounds.violation bounds.gap bounds.undercut;
    }

-- ---- all of it
-- with what the corners' plans keep, repairs cost at most R times what exceeds the violation's target
pub repairs_above : (p : DesignParts) (plans : Plans) (units excess : ℕ) → IsDesign p → IsPolicyFor (design_of p) plans → KeepsExcess (design_of p) plans (pos units) (pos excess) → 1 ≤ units →
    HasRepairs (design_of p) (multiplier_above p units excess) (violation_target (targets_of p))
repairs_above p plans units excess design policy corners slack =
    repairs_law (design_of p) 1 plans (pos units) (pos excess) (multiplier_above p units excess) (floor_target (targets_of p)) (violation_target (targets_of p)) (sound p design) policy corners
    (omega (arith, ints, slack)) (reached units excess (floor_target (targets_of p)) slack)
    (floor_fits (unsigned_abs p.violation) (unsigned_abs p.target_den) (some_of p.target_den design.target_den.low))
  where
    reached : (u x s : ℕ) → 1 ≤ u → pos x ≤ℤ (pos (lean_multiplier u x s) *ℤ (pos u +ℤ pos s))
    reached u x s h =
        let some : 0 < u + s = omega (arith, h) in
        let most : ceil_div x (u + s) ≤ lean_multiplier u x s = omega arith in
        joined (u + s) (lean_multiplier u x s) refl (le_trans x _ _ (le-mul-ceil_div x (u + s) some) (mul-le-mul_left (u + s) most))
      where
        le_trans : (a b c : ℕ) → a ≤ b → b ≤ c → a ≤ c
        le_trans a b c h k = omega (arith, h, k)

        joined : (n m : ℕ) → n ≡ u + s → x ≤ n * m → pos x ≤ℤ (pos m *ℤ (pos u +ℤ pos s))
        joined n m e l = omega (arith, ints, l, ap (λ (k : ℕ). k * m) e)

pub made_above_from : MachineRunLaw → MadeAboveLaw
made_above_from run p plans units excess h e c b made = record {
  certified = threshold_certified_from run p h e c b (multiplier_above p units excess) (violation_target (targets_of p)) (record {
    supported = record {
      design = made.design;
      some = omega arith;
      form = made.form;
      controller = made.controller;
      made = made.made;
      errors = made.errors;
      repairs = repairs_above p plans units excess made.design made.policy made.corners made.slack;
    };
    enough = kept.enough;
    bounds = made.aimed.bounds;
  });
  within = kept.within;
}
  where
    kept : MeetsTargets p (cost_of_errors (design_of p) h (multiplier_above p units excess) c.fraction_bits e) c b (multiplier_above p units excess)
    kept = threshold_targets_law p (cost_of_errors (design_of p) h (multiplier_above p units excess) c.fraction_bits e) c b (multiplier_above p units excess) made.aimed
