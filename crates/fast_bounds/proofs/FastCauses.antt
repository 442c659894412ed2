-- A cause is what a list of tests tells, and so there is one at most.
use Rattle.std.proofs.Common.{◌≡◌, inl, inr, ℕ, ◌<◌, ◌≤◌, List, ℤ, pos, unsigned_abs, arith, rules, ap, sym, ◌∙◌}
use Rattle.std.proofs.lemmas.Bool.{cases_lt}
use Rattle.qp_model.specs.form.Class.{form_of}
use Rattle.qp_model.specs.problem.Design.{Design}
use Rattle.qp_model.specs.problem.Parts.{IsDesign, design_of}
use Rattle.qp_model.specs.problem.Policy.{Plans}
use Rattle.qp_model.specs.declared.design_parts.DesignParts.{DesignParts}
use Rattle.qp_model.specs.declared.quantity.Quantity.TheVariants.{Error, Descent, Width}
use Rattle.qp_model.specs.declared.refusal.Refusal.{Refusal}
use Rattle.qp_model.specs.declared.refusal.Refusal.TheVariants.{Memory, TooManySteps, TooFine}
use Rattle.controller_maker.specs.Widest.{fast_width_size}
use Rattle.lean_engine.specs.Engine.RowExponents.{AreExponentsOf}
use Rattle.dual_bounds.specs.FastSteps.{quarter_steps, fast_multiplier_size, IsLeastQuarter}
use Rattle.step_error.specs.CarriedErrors.{run_sums_of}
use Rattle.step_error.proofs.SumFacts.{floor_range}
use Rattle.overflow_check.specs.FastController.{most_fast_steps}
use Rattle.lean_engine.specs.Engine.Stages.{Nothing, Sized, Finds}
use Rattle.lean_engine.specs.Engine.Targets.{Targets}
use Rattle.lean_engine.specs.Engine.declared.aimed.Aim.{Aim}
use Rattle.lean_engine.proofs.Engine.TestLaws.{IsOne, IsNone, IsApart, nothing_one, nothing_none, sized_one, sized_none, sized_apart, finds_one, finds_none}
use Rattle.lean_engine.proofs.Engine.OneOfEach.{one_choice, no_choice, one_exponents}
use Rattle.lean_engine.proofs.CauseLaws.{one_by, none_by, apart_by}
use Rattle.lean_engine.specs.Refusals.{aim_at}
use Rattle.fast_bounds.specs.FastRefusals.{AreStepsFor, AreFastBitsOf, AfterFastBits, IsFastFine, AfterExponents, IsFastLong, HasFastAimCause, PassesFastAim}
use Rattle.fast_bounds.specs.FastRefusals.{HasFastCause, FastCausesLaw, FastPassingLaw}

-- ---- the steps
pub one_quarter : (n a b : ℕ) → IsLeastQuarter n a → IsLeastQuarter n b → a ≡ b
one_quarter n a b h k = elim (cases_lt a b) [
  | inl l ↦ absurd (clash (quarter_steps a) n h.enough (k.least a h.some l))
  | inr l ↦ elim (cases_lt b a) [ inl o ↦ absurd (clash (quarter_steps b) n k.enough (h.least b k.some o)) | inr o ↦ omega (arith, l, o) ]
]
  where
    clash : (q n : ℕ) → n ≤ q → q < n → ⊥
    clash q n h k = omega (arith, h, k)

-- ---- an aim, with the step exponent s, from the last tests back
module _ (p : DesignParts) (a : Aim) (design : IsDesign p) (s : ℕ) where
  long_clash : (e : Refusal) (k : ℕ) → IsFastLong a s e → AreStepsFor a s k × (k ≤ most_fast_steps) → ⊥
  long_clash e k told h = few told.0 k told.2.1 h.1 (one_quarter _ told.0 k told.2.0 h.0)
    where
      few : (n k : ℕ) → most_fast_steps < n → k ≤ most_fast_steps → n ≡ k → ⊥
      few n k l h e = omega (arith, l, h, e)

  long_one : IsOne (IsFastLong a s)
  long_one e other x y = x.1 ∙ ap (λ (k : ℕ). TooManySteps (pos k)) (one_quarter _ x.0 y.0 x.2.0 y.2.0) ∙ sym y.1

  steps_same : (k n : ℕ) → AreStepsFor a s k × (k ≤ most_fast_steps) → AreStepsFor a s n × (n ≤ most_fast_steps) → k ≡ n
  steps_same k n h l = one_quarter _ k n h.0 l.0

  fine_clash : (k : ℕ) (exponents : List ℕ) (e : Refusal) (f : ℕ) → IsFastFine (design_of p) a s k exponents e → AreFastBitsOf (design_of p) a s k exponents f → ⊥
  fine_clash k exponents e f told h = no_choice (run_sums_of (design_of p) (form_of (design_of p)) (unsigned_abs a.r) k s exponents) (design_of p).grid
      (unsigned_abs a.error_target) f (floor_range p design).0 told.1 h

  pub fast_aim_one : IsOne (HasFastAimCause (design_of p) a s)
  fast_aim_one = finds_one ℕ (IsFastLong a s) _ _ long_one long_clash steps_same (λ k h.
      finds_one (List ℕ) Nothing (AreExponentsOf (design_of p) s) (AfterExponents (design_of p) a s k) nothing_one (λ e es told h. told)
      (one_exponents (design_of p) s) (λ es h. sized_one Error _ _ (finds_one ℕ (IsFastFine (design_of p) a s k es) (AreFastBitsOf (design_of p) a s k es)
      (AfterFastBits (design_of p) a s k) (λ e other x y. x.0 ∙ sym y.0) (fine_clash k es) (one_choice _ _ _)
      (λ f h. sized_one Descent _ _ (sized_one Width _ Nothing nothing_one)))))

  pub fast_aim_none : (k : ℕ) (exponents : List ℕ) (f : ℕ) → PassesFastAim (design_of p) a s k exponents f → IsNone (HasFastAimCause (design_of p) a s)
  fast_aim_none k es f h = finds_none ℕ (IsFastLong a s) _ _ k long_clash steps_same (h.steps, h.few)
      (finds_none (List ℕ) Nothing (AreExponentsOf (design_of p) s) (AfterExponents (design_of p) a s k) es (λ e xs told g. told) (one_exponents (design_of p) s)
      h.exponents (sized_none Error _ _ h.error (finds_none ℕ (IsFastFine (design_of p) a s k es) (AreFastBitsOf (design_of p) a s k es)
      (AfterFastBits (design_of p) a s k) f (fine_clash k es) (one_choice _ _ _) h.choice
      (sized_none Descent _ _ h.descent (sized_none Width _ Nothing h.width nothing_none)))))

-- out of memory is told by none of them
pub fast_aim_apart : (d : Design) (a : Aim) (s : ℕ) → IsApart (HasFastAimCause d a s)
fast_aim_apart d a s e memory (inl h) = long (pos h.0) (sym memory ∙ h.1)
  where
    long : (k : ℤ) → Memory ≡ TooManySteps k → ⊥
    long k g = search rules
fast_aim_apart d a s e memory (inr h) = exponents h.0 e memory h.2
  where
    fine : (eps : ℤ) → Memory ≡ TooFine eps → ⊥
    fine eps g = search rules

    chosen : (k : ℕ) (es : List ℕ) → IsApart (Finds ℕ (IsFastFine d a s k es) (AreFastBitsOf d a s k es) (AfterFastBits d a s k))
    chosen k es e memory (inl h) = fine _ (sym memory ∙ h.0)
    chosen k es e memory (inr h) = sized_apart Descent _ (Sized Width (fast_width_size d (unsigned_abs a.r) s k h.0) Nothing)
        (sized_apart Width _ Nothing (λ e memory never. never)) e memory h.2

    exponents : (k : ℕ) → IsApart (Finds (List ℕ) Nothing (AreExponentsOf d s) (AfterExponents d a s k))
    exponents k e memory (inl h) = absurd h
    exponents k e memory (inr h) = sized_apart Error _ _ (chosen k h.0) e memory h.2

-- ---- a design with a policy and reference plans
pub one_cause : FastCausesLaw
one_cause p plans references t e other design policy = one_by fast_multiplier_size HasFastAimCause p plans references t design policy (λ a. fast_aim_one p a design) e other

pub no_cause : FastPassingLaw
no_cause p plans references t m s k es f e design policy h =
    none_by fast_multiplier_size HasFastAimCause p plans references t m s design policy h.margin h.form h.exponent h.excess h.multiplier
    (fast_aim_none p (aim_at (design_of p) t plans references m) design s k es f h.aim) e

pub memory_apart : (d : Design) (t : Targets) (plans references : Plans) → HasFastCause d t plans references Memory → ⊥
memory_apart d t plans references = apart_by fast_multiplier_size HasFastAimCause d t plans references (fast_aim_apart d)
