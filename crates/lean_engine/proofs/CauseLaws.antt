-- A cause is what a list of tests tells, and so there is one at most.
use Rattle.std.proofs.Common.{ℕ, ◌≤◌, ◌^◌, unsigned_abs, refl}
use Rattle.qp_model.specs.bounds.Choices.{lean_multiplier_size}
use Rattle.qp_model.specs.problem.Design.{Design}
use Rattle.qp_model.specs.problem.Parts.{IsDesign, design_of}
use Rattle.qp_model.specs.problem.Policy.{Plans, IsPolicyFor}
use Rattle.qp_model.specs.declared.design_parts.DesignParts.{DesignParts}
use Rattle.qp_model.specs.declared.bounds.Margin.{Margin}
use Rattle.qp_model.specs.declared.quantity.Quantity.TheVariants.{Multiplier, Excess}
use Rattle.hessian_check.specs.Steps.{IsExponentOf}
use Rattle.design_engine.specs.Targets.{Targets, floor_target}
use Rattle.design_engine.specs.Stages.{OfForm}
use Rattle.design_engine.specs.Tests.{PassesForm, HasAimCause}
use Rattle.design_engine.specs.Refusals.{PassesMargin}
use Rattle.design_engine.specs.declared.aimed.Aim.{Aim}
use Rattle.qp_model.specs.declared.refusal.Refusal.{Refusal}
use Rattle.qp_model.specs.declared.refusal.Refusal.TheVariants.{Memory}
use Rattle.design_engine.proofs.TestLaws.{IsOne, IsNone, IsApart, sized_one, sized_none, sized_apart}
use Rattle.design_engine.proofs.StageLaws.{aim_one, aim_none, aim_apart, form_one, form_none, form_apart, corners_one, corners_none, corners_apart}
use Rattle.lean_engine.specs.Refusals.{policy_excess, policy_excess_size, aim_at, AfterExponent, HasLeanCauseBy, HasLeanCause}
use Rattle.lean_engine.specs.Order.{LeanCausesLaw, LeanPassingLaw}

-- by a machine, of whose aims this is known
module _ (size : (units excess share : ℕ) → ℕ) (Aims : Design → Aim → ℕ → Refusal → Type 0) where
  abbrev After : Design → Targets → (plans references : Plans) → Margin → ℕ → Refusal → Type 0
  After = AfterExponent size Aims

  pub one_by : (p : DesignParts) (plans references : Plans) (t : Targets) → IsDesign p → IsPolicyFor (design_of p) plans → ((a : Aim) (s : ℕ) → IsOne (Aims (design_of p) a s)) →
      IsOne (HasLeanCauseBy size Aims (design_of p) t plans references)
  one_by p plans references t design policy one e other =
      let d = design_of p in
      corners_one p plans (λ m. OfForm d (After d t plans references m)) design policy
      (λ m. form_one d (After d t plans references m) (λ s h. sized_one Excess _ _ (sized_one Multiplier _ _ (one (aim_at d t plans references m) s)))) e other

  pub none_by : (p : DesignParts) (plans references : Plans) (t : Targets) (m : Margin) (s : ℕ) → IsDesign p → IsPolicyFor (design_of p) plans → PassesMargin (design_of p) t plans m →
      PassesForm (design_of p) → IsExponentOf (design_of p) s → policy_excess_size (design_of p) plans references ≤ 2 ^ 126 →
      size (unsigned_abs m.units) (policy_excess (design_of p) plans references) (floor_target t) ≤ 2 ^ 126 → IsNone (Aims (design_of p) (aim_at (design_of p) t plans references m) s) →
      IsNone (HasLeanCauseBy size Aims (design_of p) t plans references)
  none_by p plans references t m s design policy margin form exponent excess multiplier none e =
      let d = design_of p in
      corners_none p plans (λ m. OfForm d (After d t plans references m)) design policy m margin.room margin.margin margin.slack
      (form_none d (After d t plans references m) s form exponent (sized_none Excess _ _ excess (sized_none Multiplier _ _ multiplier none))) e

  -- out of memory has no cause
  pub apart_by : (d : Design) (t : Targets) (plans references : Plans) → ((a : Aim) (s : ℕ) → IsApart (Aims d a s)) → HasLeanCauseBy size Aims d t plans references Memory → ⊥
  apart_by d t plans references apart = corners_apart d plans (λ m. OfForm d (After d t plans references m))
      (λ m. form_apart d (After d t plans references m) (λ s. sized_apart Excess _ _ (sized_apart Multiplier _ _ (apart (aim_at d t plans references m) s)))) Memory refl

pub one_cause : LeanCausesLaw
one_cause p plans references t e other design policy = one_by lean_multiplier_size HasAimCause p plans references t design policy (λ a. aim_one p a design) e other

pub no_cause : LeanPassingLaw
no_cause p plans references t m s f e design policy h =
    let before = h.before.before in
    none_by lean_multiplier_size HasAimCause p plans references t m s design policy before.margin before.form before.exponent h.before.excess h.before.multiplier
    (aim_none p (aim_at (design_of p) t plans references m) design s f h.aim) e

pub memory_apart : (d : Design) (t : Targets) (plans references : Plans) → HasLeanCause d t plans references Memory → ⊥
memory_apart d t plans references = apart_by lean_multiplier_size HasAimCause d t plans references (aim_apart d)
