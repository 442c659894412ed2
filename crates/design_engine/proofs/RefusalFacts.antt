-- A fault of a part has its cause as a refusal.
use Rattle.std.proofs.Common.{◌≡◌, inl, inr, ◌⊎◌, ◌↔◌, ℕ, ◌^◌, ◌<◌, ◌≤◌, ℤ, pos, unsigned_abs, arith, rules, refl, ap, ◌∙◌, Result, Ok, Err}
use Rattle.std.specs.Prelude.{IfErr}
use Rattle.std.specs.Result.{IsErrAnd}
use Rattle.std.proofs.lemmas.Bool.{cases_lt}
use Rattle.frac_scaled.specs.declared.fraction.Frac.{Frac}
use Rattle.qp_model.specs.form.Class.{form_of, prediction_quantity, hessian_quantity, rows_quantity}
use Rattle.qp_model.specs.problem.Design.{Design}
use Rattle.qp_model.specs.problem.Policy.{Plans}
use Rattle.qp_model.specs.bounds.Choices.{multiplier_size, multiplier_size_of}
use Rattle.qp_model.specs.form.Columns.{descent_size}
use Rattle.qp_model.specs.bounds.Errors as errors
use Rattle.qp_model.specs.bounds.Errors.{error_size, error_sums_of, epsilon}
use Rattle.qp_model.specs.declared.bounds.Margin.{Margin}
use Rattle.qp_model.specs.declared.quantity.Quantity.{Quantity}
use Rattle.qp_model.specs.declared.quantity.Quantity.TheVariants.{Multiplier, Error}
use Rattle.corner_margin.specs.Corners as corners
use Rattle.corner_margin.specs.Corners.{HasCornerRoom, IsFirstShort}
use Rattle.corner_margin.specs.declared.fault.MarginFault.{MarginFault}
use Rattle.corner_margin.specs.declared.fault.MarginFault.TheVariants.{TooWide as margin_wide, NoMargin as margin_none}
use Rattle.condensed_form.specs.Fault as condensing
use Rattle.condensed_form.specs.declared.condensed.Condensed.{Condensed}
use Rattle.qp_model.specs.declared.size_fault.SizeFault.{SizeFault}
use Rattle.qp_model.specs.declared.size_fault.SizeFault.TheVariants.{Memory as condense_memory, TooWide as condense_wide}
use Rattle.hessian_check.specs.Refusals as exponents
use Rattle.hessian_check.specs.declared.fault.StepExponents.{StepExponents}
use Rattle.hessian_check.specs.declared.fault.CurvatureFault.{CurvatureFault}
use Rattle.hessian_check.specs.declared.fault.CurvatureFault.TheVariants.{Memory as curvature_memory, TooWide as curvature_wide, NoStep}
use Rattle.step_error.specs.Choice.{IsChoice}
use Rattle.approx_inverse.specs.Fault.{IsFault}
use Rattle.qp_model.specs.declared.size_fault.SizeFault.TheVariants.{Memory as solve_memory, TooWide as solve_wide}
use Rattle.design_engine.specs.Targets.{Targets}
use Rattle.design_engine.specs.Aims.{steps_of, aim_of}
use Rattle.design_engine.specs.Stages.{Nothing, OfCorners}
use Rattle.design_engine.specs.Tests.{IsRefusedFor, HasFormCause, PassesBits, AfterBits, HasAimCause}
use Rattle.controller_maker.specs.Widest.{width_size}
use Rattle.controller_maker.specs.Fault.{IsWidthFault}
use Rattle.corner_margin.specs.Refusing.{of_margin}
use Rattle.qp_model.specs.refusal.Refusing.{of_size}
use Rattle.hessian_check.specs.Refusing.{of_curvature}
use Rattle.design_engine.specs.Refusals.{PassesMargin, PassesExponent, AfterMargin, HasCause, IsRefused}
use Rattle.qp_model.specs.declared.size_fault.SizeFault.TheVariants.{Memory as width_memory, TooWide as width_wide}
use Rattle.qp_model.specs.declared.refusal.Refusal.{Refusal}
use Rattle.qp_model.specs.declared.refusal.Refusal.TheVariants.{TooManySteps, TooFine, TooWide}
use Rattle.design_engine.specs.declared.aimed.Aim.{Aim}
use Rattle.design_engine.proofs.CauseCases.{margin_cases, refused_map}
use Rattle.design_engine.proofs.StageLaws.{form_wide, form_told, form_passed, corner_told, corner_passed, short_told}

-- the error that a fault becomes
pub refused_by : {T : Type 0} (r : Result T Refusal) (from p : Refusal → Type 0) → IsErrAnd r from → ((e : Refusal) → from e → p e) → IfErr r p
refused_by (Ok x) from p h f = absurd h
refused_by (Err e) from p h f = f e h

-- a number above the limit would be a refusal, and there is none
pub within_limit : (x : StepExponents) (fault : CurvatureFault) (n : ℕ) → (2 ^ 126 < n → ◌≡◌ {A = Result StepExponents CurvatureFault} (Ok x) (Err fault)) → n ≤ 2 ^ 126
within_limit x fault n h = elim (cases_lt (2 ^ 126) n) [ inl l ↦ absurd (differ (h l)) | inr l ↦ l ]
  where
    differ : ◌≡◌ {A = Result StepExponents CurvatureFault} (Ok x) (Err fault) → ⊥
    differ g = search rules

-- what is condensed has its quantity `prediction` within the limit
pub condensed_within : (x : Condensed) (quantity : Quantity) (n : ℕ) →
    (2 ^ 126 < n → ◌≡◌ {A = Result Condensed SizeFault} (Ok x) (Err (condense_wide quantity)) ⊎ ◌≡◌ {A = Result Condensed SizeFault} (Ok x) (Err condense_memory)) →
    n ≤ 2 ^ 126
condensed_within x quantity n h = elim (cases_lt (2 ^ 126) n) [ inl l ↦ absurd (neither (h l)) | inr l ↦ l ]
  where
    neither : ◌≡◌ {A = Result Condensed SizeFault} (Ok x) (Err (condense_wide quantity)) ⊎ ◌≡◌ {A = Result Condensed SizeFault} (Ok x) (Err condense_memory) → ⊥
    neither (inl g) = search rules
    neither (inr g) = search rules

-- ---- the form
module _ (d : Design) where
  pub condense_refused : (r : Result Condensed SizeFault) (fault : SizeFault) → r ≡ Err fault →
      ((quantity : Quantity) → r ≡ Err (condense_wide quantity) → condensing.IsFirstWideForm d quantity) →
      (e : Refusal) → e ≡ of_size fault → IsRefusedFor (HasFormCause d) e
  condense_refused r condense_memory is wide e f = inl f
  condense_refused r (condense_wide quantity) is wide e f = rw f (inr (form_wide d (λ s. Nothing) quantity (wide quantity is)))

  pub curvature_refused : prediction_quantity d ≤ 2 ^ 126 → hessian_quantity d ≤ 2 ^ 126 → rows_quantity d ≤ 2 ^ 126 →
      (fault : CurvatureFault) → exponents.IsExponentRefused d fault → (e : Refusal) → e ≡ of_curvature fault → IsRefusedFor (HasFormCause d) e
  curvature_refused i k l curvature_memory why e f = inl f
  curvature_refused i k l (curvature_wide quantity) (inl memory) e f = absurd (search rules)
  curvature_refused i k l (curvature_wide quantity) (inr why) e f = rw (f, why.0) (inr (inr (i, inr (k, inr (l, inl (refl, why.1))))))
  curvature_refused i k l NoStep (inl memory) e f = absurd (search rules)
  curvature_refused i k l NoStep (inr why) e f = rw f (inr (inr (i, inr (k, inr (l, inr (why.0, inl (refl, why.1)))))))

-- ---- an aim, with the step exponent s
above : (limit n : ℕ) → (n ≤ limit → ⊥) → limit < n
above limit n refuted = omega (arith, refuted)

module _ (d : Design) (a : Aim) (s : ℕ) where
  pub steps_refused : (k : ℤ) → (steps_of a s ≤ 2 ^ 22 → ⊥) → k ≡ pos (steps_of a s) → (e : Refusal) → e ≡ TooManySteps k → HasAimCause d a s e
  steps_refused k refuted is e j = rw (j, is) (inl (refl, above (2 ^ 22) (steps_of a s) refuted))

  pub sums_refused : (quantity : Quantity) → steps_of a s ≤ 2 ^ 22 → (error_size d (form_of d) (unsigned_abs a.r) ≤ 2 ^ 126 → ⊥) → quantity ≡ Error →
      (e : Refusal) → e ≡ TooWide quantity → HasAimCause d a s e
  sums_refused quantity few refuted g e j = rw (j, g) (inr (few, inl (refl, above (2 ^ 126) (error_size d (form_of d) (unsigned_abs a.r)) refuted)))

  pub choice_refused : (sums : errors.ErrorSums) (eps : ℤ) → steps_of a s ≤ 2 ^ 22 → error_size d (form_of d) (unsigned_abs a.r) ≤ 2 ^ 126 →
      sums ≡ error_sums_of d (form_of d) (unsigned_abs a.r) → unsigned_abs a.error_target < epsilon sums 48 → eps ≡ pos (epsilon sums 48) →
      (e : Refusal) → e ≡ TooFine eps → HasAimCause d a s e
  choice_refused sums eps few size k fine is e j = inr (few, inr (size, inl (j ∙ ap (λ (n : ℤ). TooFine n) (rw k at is), rw k at fine)))

  -- one after the bits
  past_bits : (f : ℕ) → PassesBits d a s f → (e : Refusal) → AfterBits d a s f e → IsRefusedFor (HasAimCause d a s) e
  past_bits f passes e h = inr (inr (passes.steps, inr (passes.error, inr (f, passes.choice, h))))

  pub solve_refused : (f : ℕ) → PassesBits d a s f → (fault : SizeFault) → IsFault fault (2 ^ 126 < descent_size (form_of d) f) →
      (e : Refusal) → e ≡ of_size fault → IsRefusedFor (HasAimCause d a s) e
  solve_refused f passes solve_memory h e j = inl j
  solve_refused f passes (solve_wide quantity) h e j = past_bits f passes e (rw (j, h.0) (inl (refl, h.1)))

  pub width_refused : (f k : ℕ) → PassesBits d a s f → descent_size (form_of d) f ≤ 2 ^ 126 → k ≡ steps_of a s →
      (fault : SizeFault) → IsWidthFault fault (2 ^ 126 < width_size d (unsigned_abs a.r) s k f) →
      (e : Refusal) → e ≡ of_size fault → IsRefusedFor (HasAimCause d a s) e
  width_refused f k passes size i width_memory h e j = inl j
  width_refused f k passes size i (width_wide quantity) h e j = past_bits f passes e (rw (j, h.0) (inr (size, inl (refl, rw i at h.1))))

-- ---- a design with a policy, and what is tested after the margin
module _ (d : Design) (plans : Plans) (after : Margin → Refusal → Type 0) where
  pub margin_refused : (r : Result Margin MarginFault) (fault : MarginFault) → r ≡ Err fault →
      ((quantity : Quantity) → (r ≡ Err (margin_wide quantity)) ↔ corners.IsFirstWideCorner d plans quantity) →
      ((corner row : ℕ) (slack : Frac) → r ≡ Err (margin_none corner row slack) → HasCornerRoom d plans × IsFirstShort d plans corner row slack) →
      (e : Refusal) → e ≡ of_margin fault → IsRefusedFor (OfCorners d plans after) e
  margin_refused = margin_cases d (OfCorners d plans after) plans (corner_told d plans after) (λ corner row slack h. short_told d plans after corner row slack h.0 h.1)

module _ (d : Design) (t : Targets) (plans : Plans) where
  from_margin : (m : Margin) → PassesMargin d t plans m → (e : Refusal) → AfterMargin d t m e → HasCause d t plans e
  from_margin m h e = corner_passed d plans (AfterMargin d t) e m h.room h.margin h.slack

  pub multiplier_refused : (m : Margin) (quantity : Quantity) → PassesMargin d t plans m →
      (multiplier_size (unsigned_abs m.units) (unsigned_abs m.cost) ≤ 2 ^ 126 → ⊥) → quantity ≡ Multiplier →
      (e : Refusal) → e ≡ TooWide quantity → IsRefused d t plans e
  multiplier_refused m quantity h refuted g e f = rw (f, g) (inr (from_margin m h _ (inl (refl, omega (arith, refuted)))))

  -- a cause in the form
  pub form_caused : (m : Margin) → PassesMargin d t plans m → multiplier_size_of m ≤ 2 ^ 126 → (e : Refusal) → IsRefusedFor (HasFormCause d) e → IsRefused d t plans e
  form_caused m h n = refused_map _ _ (λ e k. from_margin m h e (inr (n, form_told d (HasAimCause d (aim_of t m)) e k)))

  -- and one after it
  pub aim_caused : (m : Margin) (s : ℕ) → PassesExponent d t plans m s → (e : Refusal) → IsRefusedFor (HasAimCause d (aim_of t m) s) e → IsRefused d t plans e
  aim_caused m s h =
      let sizes = h.before in
      refused_map _ _ (λ e k. from_margin m sizes.before e (inr (sizes.multiplier, form_passed d (HasAimCause d (aim_of t m)) e s sizes.form h.exponent k)))

-- a choice, by other names of its numbers
pub choice_same : (sums other : errors.ErrorSums) (low from limit most f : ℕ) → sums ≡ other → low ≡ from → limit ≡ most → IsChoice sums low limit f → IsChoice other from most f
choice_same sums other low from limit most f e g h is = record {
  from = rw g at is.from;
  to = is.to;
  within = rw (e, h) at is.within;
  least = λ k l n. rw (e, h) at (is.least k (rw g l) n);
}
