-- What is made with a slack, an excess and R.
use Rattle.std.proofs.Common.{◌≡◌, ℕ, ◌<◌, ◌≤◌, List, length, ℤ, pos, ◌≤ℤ◌, unsigned_abs, arith, subst, sym, ◌∙◌, Result, true}
use Rattle.std.proofs.lemmas.Int.{ints}
use Rattle.qp_model.specs.form.Class.{form_of}
use Rattle.qp_model.specs.problem.Parts.{design_of}
use Rattle.qp_model.specs.problem.Policy.{Plans, IsPolicyFor}
use Rattle.qp_model.specs.problem.Runs.{Holds}
use Rattle.qp_model.specs.bounds.CornerClass.{IsMargin}
use Rattle.qp_model.specs.bounds.Choices.{lean_multiplier_size, lean_row_violation}
use Rattle.qp_model.specs.bounds.RealErrors.{real_cost}
use Rattle.qp_model.specs.bounds.Printed.{Printed, printed}
use Rattle.qp_model.specs.machine.Controller.{Numbers}
use Rattle.qp_model.specs.machine.Machine.{exponent_of}
use Rattle.qp_model.specs.machine.AbsoluteSums.{IsController}
use Rattle.qp_model.specs.declared.design_parts.DesignParts.{DesignParts}
use Rattle.qp_model.specs.declared.bounds.Margin.{Margin}
use Rattle.qp_model.specs.declared.refusal.Refusal.{Refusal}
use Rattle.hessian_check.specs.RowExponents.{exponent_in}
use Rattle.design_engine.specs.Targets.{targets_of, violation_target}
use Rattle.design_engine.specs.Aims.{IsMadeWith}
use Rattle.design_engine.specs.Bounds.{stated_cost, AreThresholdBoundsOf}
use Rattle.design_engine.specs.Tests.{PassesAim, HasAimCause}
use Rattle.design_engine.specs.Terms.{IsMadeBy, Tells}
use Rattle.design_engine.specs.declared.aimed.Aim.{Aim}
use Rattle.design_engine.specs.declared.bounds.Terms.{Terms}
use Rattle.design_engine.specs.declared.generation.Made.{Made}
use Rattle.design_engine.proofs.AnswerLaws.{told_as}
use Rattle.design_engine.proofs.PrintedFacts as printed_facts
use Rattle.lean_engine.specs.Lean.{bound_of, lean_aim, lean_terms, IsLeanBuiltBy, IsLeanBuiltAs}
use Rattle.lean_engine.specs.Refusals.{policy_excess, PassesBound, PassesSomeLean, HasLeanCause}
use Rattle.lean_engine.proofs.RefusalFacts.{aim_caused}

module _ (p : DesignParts) (plans references : Plans) (m : Margin) (policy : IsPolicyFor (design_of p) plans) (reference : IsPolicyFor (design_of p) references) where
  -- the terms
  abbrev pub Priced : Terms
  Priced = lean_terms (targets_of p) (unsigned_abs m.units) (policy_excess (design_of p) plans references)

  -- by a machine
  pub built_by : (Made : Aim → Numbers → Type 0) (AreBounds : Numbers → Printed → (r threshold : ℕ) → Type 0) (c : Numbers) (b : Printed) → IsMargin (design_of p) plans m → pos 1 ≤ℤ m.units →
      b.margin ≡ Priced.units → b.cost ≡ Priced.cost → b.lean ≡ true → Made Priced.aim c → AreBounds c b (unsigned_abs Priced.aim.r) (violation_target (targets_of p)) →
      IsLeanBuiltBy Made AreBounds p plans references c b
  built_by Made AreBounds c b margin slack units corners lean made bounds = record {
    policy = policy;
    reference = reference;
    greatest_cost = m.cost;
    margin = subst (λ (u : ℤ). IsMargin (design_of p) plans (record { units = u; cost = m.cost })) (sym same) margin;
    slack = subst (λ (u : ℤ). pos 1 ≤ℤ u) (sym same) slack;
    excess = corners;
    made = subst (λ a. Made a c) (λ i. lean_aim (targets_of p) (unsigned_abs (sym units i)) (unsigned_abs (sym corners i))) made;
    lean = lean;
    bounds = subst (λ (r : ℕ). AreBounds c b r (violation_target (targets_of p))) (λ i. bound_of (targets_of p) (unsigned_abs (sym units i)) (unsigned_abs (sym corners i))) bounds;
  }
    where
      whole : (z : ℤ) → pos 1 ≤ℤ z → pos (unsigned_abs z) ≡ z
      whole z l = omega (arith, ints, l)

      same : b.margin ≡ m.units
      same = units ∙ whole m.units slack

  lean_built : (made : Made) → IsMargin (design_of p) plans m → pos 1 ≤ℤ m.units → IsMadeBy p Priced made → IsLeanBuiltAs p plans references made
  lean_built made margin slack h = record {
    built = built_by (IsMadeWith p) (λ c b r threshold. AreThresholdBoundsOf c b r threshold (real_cost (design_of p) (form_of (design_of p)) r c)) made.controller (printed made.bounds)
        margin slack h.bounds.units h.bounds.corners h.bounds.lean h.controller h.bounds.bounds;
    errors = h.errors ∙ (λ i. pos (stated_cost (design_of p) (unsigned_abs (sym h.bounds.bounds.multiplier i)) made.controller.fraction_bits));
  }

  -- what is told of them is told of the policy and the reference plans
  pub lean_told : (s : ℕ) (x : Terms) (r : Result Made Refusal) → PassesBound (design_of p) (targets_of p) plans references m s → x ≡ Priced →
      Tells (IsMadeBy p x) ((f : ℕ) × PassesAim (design_of p) x.aim s f) (HasAimCause (design_of p) x.aim s) r →
      Tells (IsLeanBuiltAs p plans references) (PassesSomeLean (design_of p) (targets_of p) plans references) (HasLeanCause (design_of p) (targets_of p) plans references) r
  lean_told s x r passes is h =
      told_as (IsMadeBy p Priced) _ _ _ _ _ r (λ made. lean_built made passes.before.margin.margin passes.before.margin.slack)
      (λ k. (m, s, k.0, record { before = passes; aim = k.1 }))
      (aim_caused lean_multiplier_size HasAimCause (design_of p) (targets_of p) plans references m s passes.before passes.excess passes.multiplier)
      (subst (λ (y : Terms). Tells (IsMadeBy p y) ((f : ℕ) × PassesAim (design_of p) y.aim s f) (HasAimCause (design_of p) y.aim s) r) is h)

-- the violations of a controller's rows, by the list of its exponents
pub listed : (c : Numbers) (xs : List ℤ) (es : List ℕ) (r k eps t : ℕ) → IsController c → es ≡ c.exponents → k ≡ c.steps →
    Holds xs (length es) (λ i. pos (lean_row_violation (exponent_in es i) r k eps t)) → Holds xs c.rows (λ i. pos (lean_row_violation (exponent_of c i) r c.steps eps t))
listed c xs es r k eps t sound e f h = printed_facts.listed c xs es (λ n. pos (lean_row_violation n r c.steps eps t)) sound e
    (subst (λ (k : ℕ). Holds xs (length es) (λ i. pos (lean_row_violation (exponent_in es i) r k eps t))) f h)

-- none of a controller's exponents is above 40
pub below : (c : Numbers) (es : List ℕ) → IsController c → es ≡ c.exponents → (i : ℕ) → i < length es → exponent_in es i ≤ 40
below c es sound e i l = through _ _ _ (printed_facts.below c es sound e i l) sound.form.sized.step_exponent
  where
    through : (a b c : ℕ) → a ≤ b → b ≤ c → a ≤ c
    through a b c h k = omega (arith, h, k)
