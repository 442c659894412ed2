-- What an answer says of the tests, and what is certified for what is built.
use Rattle.std.proofs.Common.{◌≡◌, inl, inr, ◌⊎◌, ℕ, ◌<◌, ◌≤◌, ℤ, List, length, unsigned_abs, refl, ap, subst, rules, arith, Result, Ok, Err}
use Rattle.std.specs.Prelude.{IfOk, OnOk, IsOk}
use Rattle.std.specs.Result.{IsErr, IsErrAnd}
use Rattle.qp_model.specs.problem.Parts.{design_of}
use Rattle.qp_model.specs.problem.Policy.{Plans, IsPolicyFor}
use Rattle.qp_model.specs.declared.bounds.Margin.{Margin}
use Rattle.qp_model.specs.machine.Controller.{Numbers}
use Rattle.qp_model.specs.form.Class.{form_of}
use Rattle.qp_model.specs.bounds.RealErrors.{real_errors, real_cost}
use Rattle.qp_model.specs.bounds.Certified.{IsCertified}
use Rattle.design_engine.proofs.FormLaws.{form_law}
use Rattle.qp_model.specs.declared.design_parts.DesignParts.{DesignParts}
use Rattle.qp_model.specs.bounds.Printed.{Printed}
use Rattle.step_error.proofs.RealSteps.{carried}
use Rattle.step_error.proofs.MachineRuns.{machine_run}
use Rattle.design_engine.specs.Targets.{targets_of, IsWithinTargets}
use Rattle.design_engine.specs.Aims.{aim_of, IsMadeWith}
use Rattle.design_engine.specs.Bounds.{margin_of, printed_multiplier}
use Rattle.design_engine.specs.declared.aimed.Aim.{Aim}
use Rattle.design_engine.proofs.BuiltFacts.{cost_limited, built_as}
use Rattle.design_engine.proofs.RefusalFacts.{aim_caused}
use Rattle.integer_algebra.specs.Sums.{at}
use Rattle.qp_model.specs.problem.Box.{IsGridState}
use Rattle.step_error.specs.MachineLaws.{HasErrors}
use Rattle.design_engine.specs.Built.{IsBuilt, IsBuiltAs}
use Rattle.design_engine.specs.Tests.{PassesAim, HasAimCause, IsRefusedFor}
use Rattle.design_engine.specs.Terms.{plain_terms, IsMadeBy, Tells}
use Rattle.design_engine.specs.Refusals.{PassesExponent, PassesSome, HasCause}
use Rattle.design_engine.specs.declared.bounds.Terms.{Terms}
use Rattle.design_engine.specs.declared.generation.Made.{Made}
use Rattle.qp_model.specs.declared.refusal.Refusal.{Refusal}
use Rattle.qp_model.specs.declared.refusal.Refusal.TheVariants.{Memory}
use Rattle.design_engine.proofs.TestLaws.{IsOne, IsNone}
use Rattle.design_engine.proofs.PromiseLaws.{certified_from}
use Rattle.design_engine.proofs.TargetLaws.{targets_law}

-- the errors of a controller's steps are those that its gains leave
pub carried_with : (p : DesignParts) (a : Aim) (c : Numbers) → 1 ≤ unsigned_abs a.r → IsMadeWith p a c → (xi : List ℤ) → length xi ≡ (design_of p).states →
    IsGridState (design_of p) (at xi) → (k : ℕ) → k < c.steps →
    HasErrors (design_of p) (form_of (design_of p)) (unsigned_abs a.r) c xi k (real_errors (design_of p) (form_of (design_of p)) (unsigned_abs a.r) c)
carried_with p a c some h xi long inside k l = carried p (form_of (design_of p)) (unsigned_abs a.r) c xi (record {
  design = h.design;
  bound = some;
  form = form_law p h.design h.narrow;
  controller = h.controller;
  made = h.made;
  long = long;
  inside = inside;
}) k

-- ---- results
pub ok_map : {T E : Type 0} (r : Result T E) (p q : T → Type 0) → IfOk r p → ((x : T) → p x → q x) → IfOk r q
ok_map (Ok x) p q h f = f x h
ok_map (Err e) p q h f = h

pub absent_of_error : {T E : Type 0} (r : Result T E) (p : T → Type 0) → IsErr r → IfOk r p
absent_of_error (Ok x) p h = absurd (search rules)
absent_of_error (Err e) p h = tt

pub ok_of_error : {T E : Type 0} (r : Result T E) (p : Type 0) → IsErr r → OnOk r p
ok_of_error (Ok x) p h = absurd (search rules)
ok_of_error (Err e) p h = tt

-- ---- what an answer tells
-- a refusal that is handed on
pub handed : (is : Made → Type 0) (passed : Type 0) (cause from : Refusal → Type 0) (r : Result Made Refusal) → IsErr r → IsErrAnd r from →
    ((e : Refusal) → from e → IsRefusedFor cause e) → Tells is passed cause r
handed is passed cause from (Ok x) e h f = absurd h
handed is passed cause from (Err x) e h f = record { made = tt; passes = tt; refused = f x h }

-- the same of an answer, in other words
pub told_as : (is other : Made → Type 0) (passed more : Type 0) (cause why : Refusal → Type 0) (r : Result Made Refusal) → ((x : Made) → is x → other x) → (passed → more) →
    ((e : Refusal) → IsRefusedFor cause e → IsRefusedFor why e) → Tells is passed cause r → Tells other more why r
told_as is other passed more cause why (Ok x) f g k h = record { made = f x h.made; passes = g h.passes; refused = tt }
told_as is other passed more cause why (Err e) f g k h = record { made = tt; passes = tt; refused = k e h.refused }

-- each cause is answered, and so is what passes every test
module _ (is : Made → Type 0) (passed : Type 0) (cause : Refusal → Type 0) (one : IsOne cause) (none : passed → IsNone cause) where
  pub every_from : (r : Result Made Refusal) → Tells is passed cause r → (e : Refusal) → cause e → (r ≡ Err e) ⊎ (r ≡ Err Memory)
  every_from (Ok x) h e k = absurd (none h.passes e k)
  every_from (Err o) h e k = elim h.refused [ inl memory ↦ inr (ap Err memory) | inr other ↦ inl (ap Err (one o e other k)) ]

  pub accepted_from : (r : Result Made Refusal) → Tells is passed cause r → passed → IsOk r ⊎ (r ≡ Err Memory)
  accepted_from (Ok x) h passes = inl refl
  accepted_from (Err o) h passes = elim h.refused [ inl memory ↦ inr (ap Err memory) | inr other ↦ absurd (none passes o other) ]

-- ---- what is built
pub built_certified : (p : DesignParts) (plans : Plans) (c : Numbers) (b : Printed) → IsBuilt p plans c b → IsCertified (design_of p) c b
built_certified p plans c b h =
    certified_from machine_run p plans (form_of (design_of p)) (real_errors (design_of p) (form_of (design_of p)) (printed_multiplier b) c) c b (record {
      design = h.made.design;
      policy = h.policy;
      margin = h.margin;
      slack = h.slack;
      controller = h.made.controller;
      form = form_law p h.made.design h.made.narrow;
      made = h.made.made;
      errors = carried_with p (aim_of (targets_of p) (margin_of b)) c (omega arith) h.made;
      bounds = h.bounds;
    })

pub built_within : (p : DesignParts) (plans : Plans) (c : Numbers) (b : Printed) → IsBuilt p plans c b → IsWithinTargets (targets_of p) b
built_within p plans c b h = targets_law p (real_cost (design_of p) (form_of (design_of p)) (printed_multiplier b) c) c b (record {
  design = h.made.design;
  steps = h.made.steps;
  errors = cost_limited p (aim_of (targets_of p) (margin_of b)) c h.made;
  exponents = λ i l. h.made.made.exponents.bounded i (subst (λ (n : ℕ). i < n) h.made.made.sizes.rows l);
  bounds = h.bounds;
})

-- what is told of the terms of a margin is told of its policy
pub plain_told : (p : DesignParts) (plans : Plans) (m : Margin) (s : ℕ) (x : Terms) (r : Result Made Refusal) → IsPolicyFor (design_of p) plans →
    PassesExponent (design_of p) (targets_of p) plans m s → x ≡ plain_terms (targets_of p) m →
    Tells (IsMadeBy p x) ((f : ℕ) × PassesAim (design_of p) x.aim s f) (HasAimCause (design_of p) x.aim s) r →
    Tells (IsBuiltAs p plans) (PassesSome (design_of p) (targets_of p) plans) (HasCause (design_of p) (targets_of p) plans) r
plain_told p plans m s x r policy passes is h =
    told_as (IsMadeBy p (plain_terms (targets_of p) m)) _ _ _ _ _ r (λ made. built_as p plans m made policy passes.before.before)
    (λ k. (m, s, k.0, record { before = passes; aim = k.1 })) (aim_caused (design_of p) (targets_of p) plans m s passes)
    (subst (λ (y : Terms). Tells (IsMadeBy p y) ((f : ℕ) × PassesAim (design_of p) y.aim s f) (HasAimCause (design_of p) y.aim s) r) is h)
