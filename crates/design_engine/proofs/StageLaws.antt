-- The tests of any controller as lists: those of the corners, of a form and of an aim. Each list tells at most one refusal, and none where all are passed.
use Rattle.std.proofs.Common.{◌≡◌, inl, inr, ℕ, ◌^◌, ◌≤◌, ℤ, pos, ◌*ℤ◌, ◌≤ℤ◌, ◌<ℤ◌, unsigned_abs, arith, rules, refl, sym, ◌∙◌}
use Rattle.std.proofs.lemmas.Int.{ints}
use Rattle.integer_algebra.proofs.OrderLaws.{le_of_lt_z, mul-le-mul_right_z}
use Rattle.frac_scaled.specs.declared.fraction.Frac.{Frac}
use Rattle.qp_model.specs.form.Class.{form_of}
use Rattle.qp_model.specs.problem.Design.{Design}
use Rattle.qp_model.specs.problem.Parts.{IsDesign, design_of}
use Rattle.qp_model.specs.problem.Policy.{Plans, IsPolicyFor}
use Rattle.qp_model.specs.bounds.CornerClass.{shown, IsMargin}
use Rattle.qp_model.specs.bounds.Errors.{error_sums_of}
use Rattle.qp_model.specs.declared.design_parts.DesignParts.{DesignParts}
use Rattle.qp_model.specs.declared.bounds.Margin.{Margin}
use Rattle.qp_model.specs.declared.quantity.Quantity.{Quantity}
use Rattle.qp_model.specs.declared.quantity.Quantity.TheVariants.{Prediction, CornerSlack, CornerCost, Hessian, Rows, Curvature as curvature_named, Error, Descent, Width}
use Rattle.condensed_form.specs.Fault.{IsFirstWideForm}
use Rattle.corner_margin.specs.Corners.{HasCornerRoom, IsFirstShort, IsFirstWideCorner}
use Rattle.hessian_check.specs.Steps.{IsExponentOf}
use Rattle.step_error.proofs.SumFacts.{floor_range}
use Rattle.design_engine.specs.Aims.{steps_of, AreBitsOf}
use Rattle.design_engine.specs.Stages.{Nothing, Sized, Finds, IsFlat, OfForm, IsShort, IsWideMargin, OfCorners}
use Rattle.design_engine.specs.Tests.{width_of, PassesForm, HasFormCause, PassesAim, IsLong, IsFine, AfterBits, AfterSteps, HasAimCause}
use Rattle.design_engine.specs.declared.aimed.Aim.{Aim}
use Rattle.qp_model.specs.declared.refusal.Refusal.{Refusal}
use Rattle.qp_model.specs.declared.refusal.Refusal.TheVariants.{Memory, NoMargin, Curvature, TooManySteps, TooFine, TooWide}
use Rattle.design_engine.proofs.TestLaws.{IsOne, IsNone, IsApart, nothing_one, nothing_none, next_one, next_none, sized_one, sized_none, sized_map, sized_clear, sized_apart, finds_one, finds_none}
use Rattle.design_engine.proofs.CauseCases.{wide_corner, wide_form}
use Rattle.design_engine.proofs.OneOfEach.{one_margin, one_slack, one_corner, one_row, one_exponent, no_exponent, one_choice, no_choice, slack_positive}

-- ---- an aim, with the step exponent s, from the last tests back
module _ (p : DesignParts) (a : Aim) (design : IsDesign p) where
  fine_clash : (e : Refusal) (f : ℕ) → IsFine (design_of p) a e → AreBitsOf (design_of p) a f → ⊥
  fine_clash e f told h = no_choice (error_sums_of (design_of p) (form_of (design_of p)) (unsigned_abs a.r)) (design_of p).grid (unsigned_abs a.error_target) f
      (floor_range p design).0 told.1 h

  long_clash : (s : ℕ) (e : Refusal) → IsLong a s e → steps_of a s ≤ 2 ^ 22 → ⊥
  long_clash s e told h = omega (arith, told.1, h)

  pub aim_one : (s : ℕ) → IsOne (HasAimCause (design_of p) a s)
  aim_one s = next_one (IsLong a s) _ (AfterSteps (design_of p) a s) (λ e other x y. x.0 ∙ sym y.0) (long_clash s)
      (sized_one Error _ _ (finds_one ℕ (IsFine (design_of p) a) (AreBitsOf (design_of p) a) (AfterBits (design_of p) a s) (λ e other x y. x.0 ∙ sym y.0) fine_clash
      (one_choice _ _ _) (λ f h. sized_one Descent _ _ (sized_one Width _ Nothing nothing_one))))

  pub aim_none : (s f : ℕ) → PassesAim (design_of p) a s f → IsNone (HasAimCause (design_of p) a s)
  aim_none s f h = next_none (IsLong a s) _ (AfterSteps (design_of p) a s) (long_clash s) h.before.steps
      (sized_none Error _ _ h.before.error (finds_none ℕ (IsFine (design_of p) a) (AreBitsOf (design_of p) a) (AfterBits (design_of p) a s) f fine_clash
      (one_choice _ _ _) h.before.choice (sized_none Descent _ _ h.descent (sized_none Width _ Nothing h.width nothing_none))))

-- where no test of an aim tells anything, whose steps are few enough and whose bits are f, it passes them all
pub aim_clear : (d : Design) (a : Aim) (s f : ℕ) → IsNone (HasAimCause d a s) → steps_of a s ≤ 2 ^ 22 → AreBitsOf d a f → PassesAim d a s f
aim_clear d a s f none few bits =
    let error = sized_clear Error _ (Finds ℕ (IsFine d a) (AreBitsOf d a) (AfterBits d a s)) (λ e h. none e (inr (few, h))) in
    let descent = sized_clear Descent _ (Sized Width (width_of d a s f) Nothing) (λ e h. error.1 e (inr (f, bits, h))) in
    record { before = record { steps = few; error = error.0; choice = bits }; descent = descent.0; width = (sized_clear Width _ Nothing descent.1).0 }

pub aim_apart : (d : Design) (a : Aim) (s : ℕ) → IsApart (HasAimCause d a s)
aim_apart d a s e memory (inl h) = long (pos (steps_of a s)) (sym memory ∙ h.0)
  where
    long : (k : ℤ) → Memory ≡ TooManySteps k → ⊥
    long k g = search rules
aim_apart d a s e memory (inr h) = sized_apart Error _ (Finds ℕ (IsFine d a) (AreBitsOf d a) (AfterBits d a s)) chosen e memory h.1
  where
    fine : (eps : ℤ) → Memory ≡ TooFine eps → ⊥
    fine eps g = search rules

    chosen : IsApart (Finds ℕ (IsFine d a) (AreBitsOf d a) (AfterBits d a s))
    chosen e memory (inl h) = fine _ (sym memory ∙ h.0)
    chosen e memory (inr h) = sized_apart Descent _ (Sized Width (width_of d a s h.0) Nothing) (sized_apart Width _ Nothing (λ e memory never. never)) e memory h.2

-- ---- a form, and then what is tested with the step exponent
module _ (d : Design) (after : ℕ → Refusal → Type 0) where
  pub form_wide : (quantity : Quantity) → IsFirstWideForm d quantity → OfForm d after (TooWide quantity)
  form_wide = wide_form d (λ quantity. OfForm d after (TooWide quantity)) (λ h. inl (refl, h)) (λ h. inr (h.0, inl (refl, h.1))) (λ h. inr (h.0, inr (h.1.0, inl (refl, h.1.1))))

  -- a cause after the form
  pub form_passed : (e : Refusal) (s : ℕ) → PassesForm d → IsExponentOf d s → after s e → OfForm d after e
  form_passed e s h exponent x = inr (h.prediction, inr (h.hessian, inr (h.rows, inr (h.curvature, inr (s, exponent, x)))))

  -- and one in it, whatever is tested then
  pub form_told : (e : Refusal) → HasFormCause d e → OfForm d after e
  form_told = sized_map Prediction _ _ _ (sized_map Hessian _ _ _ (sized_map Rows _ _ _ (sized_map curvature_named _ _ _ flat)))
    where
      flat : (e : Refusal) → Finds ℕ (IsFlat d) (IsExponentOf d) (λ s. Nothing) e → Finds ℕ (IsFlat d) (IsExponentOf d) after e
      flat e (inl h) = inl h
      flat e (inr h) = absurd h.2

  flat_clash : (e : Refusal) (s : ℕ) → IsFlat d e → IsExponentOf d s → ⊥
  flat_clash e s a h = no_exponent d s a.1 h

  pub form_one : ((s : ℕ) → IsExponentOf d s → IsOne (after s)) → IsOne (OfForm d after)
  form_one one = sized_one Prediction _ _ (sized_one Hessian _ _ (sized_one Rows _ _ (sized_one curvature_named _ _
      (finds_one ℕ (IsFlat d) (IsExponentOf d) after (λ e other a b. a.0 ∙ sym b.0) flat_clash (one_exponent d) one))))

  -- where it tells nothing, the form passes its tests, and what is tested with the step exponent tells nothing
  pub form_clear : IsNone (OfForm d after) → PassesForm d × ((s : ℕ) → IsExponentOf d s → IsNone (after s))
  form_clear none =
      let prediction = sized_clear Prediction _ _ none in
      let hessian = sized_clear Hessian _ _ prediction.1 in
      let rows = sized_clear Rows _ _ hessian.1 in
      let curvature = sized_clear curvature_named _ _ rows.1 in
      (record { prediction = prediction.0; hessian = hessian.0; rows = rows.0; curvature = curvature.0 }, λ s exponent e h. curvature.1 e (inr (s, exponent, h)))

  pub form_apart : ((s : ℕ) → IsApart (after s)) → IsApart (OfForm d after)
  form_apart apart = sized_apart Prediction _ _ (sized_apart Hessian _ _ (sized_apart Rows _ _ (sized_apart curvature_named _ _ found)))
    where
      flat : Memory ≡ Curvature → ⊥
      flat g = search rules

      found : IsApart (Finds ℕ (IsFlat d) (IsExponentOf d) after)
      found e memory (inl h) = flat (sym memory ∙ h.0)
      found e memory (inr h) = apart h.0 e memory h.2

  pub form_none : (s : ℕ) → PassesForm d → IsExponentOf d s → IsNone (after s) → IsNone (OfForm d after)
  form_none s h exponent none = sized_none Prediction _ _ h.prediction (sized_none Hessian _ _ h.hessian (sized_none Rows _ _ h.rows (sized_none curvature_named _ _ h.curvature
      (finds_none ℕ (IsFlat d) (IsExponentOf d) after s flat_clash (one_exponent d) exponent none))))

-- ---- the corners, and then what is tested with the margin
module _ (d : Design) (plans : Plans) (after : Margin → Refusal → Type 0) where
  roomy : (e : Refusal) → HasCornerRoom d plans → Finds Margin (IsShort d plans) (IsWideMargin d plans) after e → OfCorners d plans after e
  roomy e h a = inr (h.prediction, inr (h.slack, inr (h.cost, a)))

  pub short_told : (corner row : ℕ) (slack : Frac) → HasCornerRoom d plans → IsFirstShort d plans corner row slack → OfCorners d plans after (NoMargin corner row slack)
  short_told corner row slack h short = roomy _ h (inl (corner, row, slack, refl, short))

  pub corner_told : (quantity : Quantity) → IsFirstWideCorner d plans quantity → OfCorners d plans after (TooWide quantity)
  corner_told =
      wide_corner d (λ quantity. OfCorners d plans after (TooWide quantity)) plans (λ h. inl (refl, h)) (λ h. inr (h.0, inl (refl, h.1)))
      (λ h. inr (h.0, inr (h.1.0, inl (refl, h.1.1))))

  pub corner_passed : (e : Refusal) (m : Margin) → HasCornerRoom d plans → IsMargin d plans m → pos 1 ≤ℤ m.units → after m e → OfCorners d plans after e
  corner_passed e m room margin slack a = roomy e room (inr (m, (margin, slack), a))

  -- where it tells nothing, the corners pass their tests, and what is tested with their margin tells nothing
  pub corners_clear : (m : Margin) → IsMargin d plans m → pos 1 ≤ℤ m.units → IsNone (OfCorners d plans after) → HasCornerRoom d plans × IsNone (after m)
  corners_clear m margin units none =
      let prediction = sized_clear Prediction _ _ none in
      let slack = sized_clear CornerSlack _ _ prediction.1 in
      let cost = sized_clear CornerCost _ _ slack.1 in
      (record { prediction = prediction.0; slack = slack.0; cost = cost.0 }, λ e h. cost.1 e (inr (m, (margin, units), h)))

  pub corners_apart : ((m : Margin) → IsApart (after m)) → IsApart (OfCorners d plans after)
  corners_apart apart = sized_apart Prediction _ _ (sized_apart CornerSlack _ _ (sized_apart CornerCost _ _ found))
    where
      short : (corner row : ℕ) (slack : Frac) → Memory ≡ NoMargin corner row slack → ⊥
      short corner row slack g = search rules

      found : IsApart (Finds Margin (IsShort d plans) (IsWideMargin d plans) after)
      found e memory (inl h) = short h.0 h.1 h.2 (sym memory ∙ h.3)
      found e memory (inr h) = apart h.0 e memory h.2

  short_one : IsOne (IsShort d plans)
  short_one e other a b =
      let c = one_corner d plans a.0 a.1 b.0 b.1 a.2 b.2 a.4 b.4 in
      same e other a.0 b.0 a.1 b.1 a.2 b.2 a.3 b.3 c a.4 b.4
    where
      same : (e other : Refusal) (c b r q : ℕ) (x y : Frac) → e ≡ NoMargin c r x → other ≡ NoMargin b q y → c ≡ b →
          IsFirstShort d plans c r x → IsFirstShort d plans b q y → e ≡ other
      same e other c b r q x y g h l j k =
          let i = rw l at j in
          let n = one_row d plans b r q x y i k in
          let o = one_slack d plans b q x y (rw n at i) k in
          g ∙ rw (l, n, o) (sym h)

module _ (p : DesignParts) (plans : Plans) (after : Margin → Refusal → Type 0) (design : IsDesign p) (policy : IsPolicyFor (design_of p) plans) where
  short_clash : (e : Refusal) (m : Margin) → IsShort (design_of p) plans e → IsWideMargin (design_of p) plans m → ⊥
  short_clash e m a h =
      let s = a.4 in
      clash (mul-le-mul_right_z ((shown (design_of p) plans).slack_scale a.0) {a = pos 1} {b = m.units}
      (le_of_lt_z (slack_positive p plans design policy a.0 s.corner_first s.corner_last)) h.1)
      (h.0.slacks a.0 _ s.corner_first s.corner_last (omega (arith, s.row_first, s.row_last))) s.short
    where
      clash : {w u x : ℤ} → (pos 1 *ℤ w) ≤ℤ u → u ≤ℤ x → x <ℤ w → ⊥
      clash {w} {u} {x} f g h = omega (arith, ints)

  pub corners_one : ((m : Margin) → IsOne (after m)) → IsOne (OfCorners (design_of p) plans after)
  corners_one one = sized_one Prediction _ _ (sized_one CornerSlack _ _ (sized_one CornerCost _ _
      (finds_one Margin (IsShort (design_of p) plans) (IsWideMargin (design_of p) plans) after (short_one (design_of p) plans after) short_clash
      (λ m o h k. one_margin p plans design policy m o h.0 k.0) (λ m h. one m))))

  pub corners_none : (m : Margin) → HasCornerRoom (design_of p) plans → IsMargin (design_of p) plans m → pos 1 ≤ℤ m.units → IsNone (after m) →
      IsNone (OfCorners (design_of p) plans after)
  corners_none m room margin slack none = sized_none Prediction _ _ room.prediction (sized_none CornerSlack _ _ room.slack (sized_none CornerCost _ _ room.cost
      (finds_none Margin (IsShort (design_of p) plans) (IsWideMargin (design_of p) plans) after m short_clash
      (λ m o h k. one_margin p plans design policy m o h.0 k.0) (margin, slack) none)))
