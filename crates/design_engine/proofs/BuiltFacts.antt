-- What passes every test is built.
use Rattle.std.proofs.Common.{◌≡◌, inl, inr, ℕ, ◌≤◌, ◌^◌, pos, ◌≤ℤ◌, unsigned_abs, List, arith, refl, ap, sym, subst, ◌∙◌}
use Rattle.std.proofs.lemmas.Bool.{cases_eq}
use Rattle.std.proofs.lemmas.List.Elements.{All-from_get_or}
use Rattle.qp_model.specs.problem.Parts.{IsDesign, design_of}
use Rattle.qp_model.specs.problem.Policy.{Plans, IsPolicyFor}
use Rattle.qp_model.specs.form.Curvature.{AreExponents}
use Rattle.qp_model.specs.bounds.Choices.{multiplier_of, violation_bound, row_violation_bound}
use Rattle.qp_model.specs.bounds.CornerClass.{IsMargin}
use Rattle.qp_model.specs.form.Class.{form_of, hessian_quantity}
use Rattle.design_engine.proofs.FormLaws.{form_law}
use Rattle.step_error.proofs.RealCosts as costs
use Rattle.qp_model.specs.problem.Design.{Design, rows}
use Rattle.qp_model.specs.bounds.Built.{IsDerivedFrom}
use Rattle.qp_model.specs.bounds.RealErrors.{real_cost}
use Rattle.qp_model.specs.machine.Controller.{Numbers}
use Rattle.qp_model.specs.problem.Limits.{text_version}
use Rattle.qp_model.specs.machine.AbsoluteSums.{IsController}
use Rattle.qp_model.specs.declared.design_parts.DesignParts.{DesignParts}
use Rattle.qp_model.specs.bounds.Printed.{Printed, printed}
use Rattle.qp_model.specs.declared.bounds.Margin.{Margin}
use Rattle.hessian_check.specs.Steps.{IsExponentOf}
use Rattle.hessian_check.specs.RowExponents.{exponent_in, AreExponentsOf}
use Rattle.design_engine.specs.Targets.{targets_of}
use Rattle.design_engine.specs.Aims.{aim_of, steps_of, AreBitsOf, IsMadeWith}
use Rattle.design_engine.specs.declared.aimed.Aim.{Aim}
use Rattle.design_engine.specs.Bounds.{margin_of, stated_cost, AreBoundsWith}
use Rattle.design_engine.specs.Terms.{plain_terms, IsMadeBy}
use Rattle.design_engine.specs.declared.generation.Made.{Made}
use Rattle.dual_bounds.proofs.RowBounds.{greatest_row}
use Rattle.controller_maker.specs.Assembled.{HasExponents, IsAssembled}
use Rattle.controller_maker.proofs.RowExponents.{repeated_exponents}
use Rattle.design_engine.specs.Built.{IsBuiltAs}
use Rattle.design_engine.specs.Refusals.{PassesMargin}

-- the step exponent is at most 40
pub exponent_small : (d : Design) (s : ℕ) → IsExponentOf d s → s ≤ 40
exponent_small d s h = elim h.is_step [
  | inl x ↦ omega (arith, x.holds.0, h.limit)
  | inr x ↦ omega (arith, x.1, h.limit)
]

-- the exponents of a design's rows, as a controller has them
pub exponents_listed : (d : Design) (s : ℕ) (es : List ℕ) → AreExponentsOf d s es → HasExponents d s es
exponents_listed d s es h = elim (cases_eq d.version text_version) [
  | inl e ↦ repeated_exponents d s (rows d) es (h.first e) refl
  | inr e ↦ elim (h.second e) [
    | inl low ↦ record {
      long = low.1.long;
      high = All-from_get_or (λ n. n ≤ s) es 0 (λ i l. (low.1.each i (omega (arith, l, low.1.long))).high);
      first = λ f. absurd (e f);
    }
    | inr all ↦ repeated_exponents d s (rows d) es all.1 refl
  ]
]

-- what is assembled with curvature exponents is made for the design
pub derived_from : (d : Design) (c : Numbers) (r q s : ℕ) (es : List ℕ) (k f : ℕ) → AreExponents d (exponent_in es) s → r ≡ q → IsAssembled d r s es k f c →
    IsDerivedFrom d (form_of d) q c
derived_from d c r q s es k f curved is a = record {
  sizes = a.sizes;
  rows = a.rows;
  gains = a.gains;
  exponents = rw (a.exponents, a.step_exponent) curved;
  clamp = a.clamp ∙ rw (is, a.fraction_bits, a.step_exponent) refl;
}

-- the exponents of the rows are those that it has
pub assembled_with : (d : Design) (r q s : ℕ) (es : List ℕ) (k f : ℕ) (c : Numbers) → r ≡ q → IsAssembled d r s es k f c → IsAssembled d q s c.exponents k f c
assembled_with d r q s es k f c is a =
    subst (λ (xs : List ℕ). IsAssembled d q s xs k f c) (sym a.exponents) (subst (λ (n : ℕ). IsAssembled d n s es k f c) is a)

-- so it is made with an aim
pub made_from : (p : DesignParts) (a : Aim) (c : Numbers) (s : ℕ) (es : List ℕ) (k f : ℕ) → IsDesign p → hessian_quantity (design_of p) ≤ 2 ^ 126 →
    IsExponentOf (design_of p) s → AreExponentsOf (design_of p) s es → AreExponents (design_of p) (exponent_in es) s → k ≡ steps_of a s →
    AreBitsOf (design_of p) a f → IsController c → IsAssembled (design_of p) (unsigned_abs a.r) s es k f c → IsMadeWith p a c
made_from p a c s es k f design narrow exponent exponents curved count bits sound is = record {
  design = design;
  narrow = narrow;
  controller = sound;
  version = is.version;
  made = derived_from (design_of p) c (unsigned_abs a.r) (unsigned_abs a.r) s es k f curved refl is;
  exponent = rw is.step_exponent exponent;
  exponents = rw (is.step_exponent, is.exponents) exponents;
  steps = is.steps ∙ count ∙ rw is.step_exponent refl;
  bits = rw is.fraction_bits bits;
  width = is.width;
}

-- what the errors of its steps cost is no more than what is stated of them
pub made_within : (p : DesignParts) (a : Aim) (c : Numbers) → IsMadeWith p a c →
    real_cost (design_of p) (form_of (design_of p)) (unsigned_abs a.r) c ≤ stated_cost (design_of p) (unsigned_abs a.r) c.fraction_bits
made_within p a c h = costs.cost p (form_of (design_of p)) (unsigned_abs a.r) c h.design (form_law p h.design h.narrow) h.made

-- nor than the aim lets them
pub cost_limited : (p : DesignParts) (a : Aim) (c : Numbers) → IsMadeWith p a c →
    real_cost (design_of p) (form_of (design_of p)) (unsigned_abs a.r) c ≤ unsigned_abs a.error_target
cost_limited p a c h = omega (arith, made_within p a c h, h.bits.within)

-- with the terms of a margin, and with their bounds
pub built_as : (p : DesignParts) (plans : Plans) (m : Margin) (made : Made) → IsPolicyFor (design_of p) plans → PassesMargin (design_of p) (targets_of p) plans m →
    IsMadeBy p (plain_terms (targets_of p) m) made → IsBuiltAs p plans made
built_as p plans m made policy passes h = record {
  built = record {
    policy = policy;
    margin = subst (λ (x : Margin). IsMargin (design_of p) plans x) (sym same) passes.margin;
    slack = subst (λ (x : Margin). pos 1 ≤ℤ x.units) (sym same) passes.slack;
    made = subst (λ (x : Margin). IsMadeWith p (aim_of (targets_of p) x) c) (sym same) h.controller;
    lean = h.bounds.lean;
    bounds = subst (λ (x : Margin). AreBoundsWith c b (multiplier_of x) (cost x) (violation_bound c.step_exponent (multiplier_of x) c.steps (cost x))
        (λ e. row_violation_bound e c.step_exponent (multiplier_of x) c.steps (cost x)) (unsigned_abs b.violation)) (sym same)
        (subst (λ (n : ℕ). AreBoundsWith c b (multiplier_of m) (cost m) n rows (unsigned_abs b.violation)) (greatest_row c.step_exponent (multiplier_of m) c.steps (cost m))
        (subst (λ (n : ℕ). AreBoundsWith c b (multiplier_of m) (cost m) (rows c.step_exponent) rows n) (sym (ap unsigned_abs h.bounds.bounds.violation)) h.bounds.bounds));
  };
  errors = h.errors ∙ (λ i. pos (stated_cost (design_of p) (multiplier_of (sym same i)) c.fraction_bits));
}
  where
    c : Numbers
    c = made.controller

    b : Printed
    b = printed made.bounds

    same : margin_of b ≡ m
    same = λ i. record { units = h.bounds.units i; cost = h.bounds.corners i }

    cost : Margin → ℕ
    cost x = real_cost (design_of p) (form_of (design_of p)) (multiplier_of x) c

    rows : ℕ → ℕ
    rows e = row_violation_bound e c.step_exponent (multiplier_of m) c.steps (cost m)
