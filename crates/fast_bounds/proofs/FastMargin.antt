-- A controller that is made of a design and a policy alone: why it keeps the whole promise of its bounds, and why it is refused.
use Rattle.std.proofs.Common.{◌≡◌, inl, inr, ℕ, ◌+◌, ◌*◌, ◌^◌, ◌<◌, ◌≤◌, max, List, ℤ, pos, ◌≤ℤ◌, unsigned_abs, arith, refl, subst, sym, ◌∙◌, Result}
use Rattle.std.proofs.lemmas.Int.{ints}
use Rattle.qp_model.specs.problem.Design.{Design}
use Rattle.qp_model.specs.problem.Parts.{design_of}
use Rattle.qp_model.specs.problem.Policy.{Plans, IsPolicyFor}
use Rattle.qp_model.specs.form.Class.{form_of}
use Rattle.qp_model.specs.machine.Controller.{Numbers}
use Rattle.qp_model.specs.bounds.Choices.{multiplier_of, multiplier_size_of, violation_bound, row_violation_bound}
use Rattle.qp_model.specs.bounds.CornerClass.{IsMargin}
use Rattle.qp_model.specs.bounds.Printed.{Printed, printed}
use Rattle.qp_model.specs.bounds.RealErrors.{real_errors}
use Rattle.qp_model.specs.declared.bounds.Margin.{Margin}
use Rattle.qp_model.specs.declared.design_parts.DesignParts.{DesignParts}
use Rattle.qp_model.specs.declared.quantity.Quantity.{Quantity}
use Rattle.qp_model.specs.declared.quantity.Quantity.TheVariants.{Multiplier, Error, Descent, Width}
use Rattle.qp_model.specs.declared.refusal.Refusal.{Refusal}
use Rattle.qp_model.specs.declared.refusal.Refusal.TheVariants.{Memory, TooWide}
use Rattle.controller_maker.specs.Widest.{fast_width_size}
use Rattle.dual_bounds.specs.FastSteps.{quarter_steps}
use Rattle.dual_bounds.proofs.RowBounds.{greatest_row}
use Rattle.overflow_check.specs.FastController.{most_fast_steps}
use Rattle.lean_engine.specs.Steps.{IsExponentOf}
use Rattle.lean_engine.specs.Engine.RowExponents.{AreExponentsOf}
use Rattle.lean_engine.specs.Engine.Aims.{aim_of}
use Rattle.lean_engine.specs.Engine.Bounds.{margin_of, printed_multiplier, AreBoundsWith}
use Rattle.lean_engine.specs.Engine.Refusals.{PassesMargin}
use Rattle.lean_engine.specs.Engine.Stages.{Nothing, Sized, Finds, OfForm}
use Rattle.lean_engine.specs.Engine.Targets.{Targets, targets_of}
use Rattle.lean_engine.specs.Engine.Terms.{plain_terms}
use Rattle.lean_engine.specs.Engine.Tests.{PassesForm, IsRefusedFor, HasFormCause}
use Rattle.lean_engine.specs.Engine.declared.aimed.Aim.{Aim}
use Rattle.lean_engine.specs.Engine.declared.bounds.Terms.{Terms}
use Rattle.lean_engine.proofs.Engine.CauseCases.{refused_map}
use Rattle.lean_engine.proofs.Engine.PromiseLaws.{margin_repairs}
use Rattle.lean_engine.proofs.Engine.StageLaws.{form_one, form_none, form_clear, form_apart, form_told, form_passed, corners_one, corners_none, corners_clear, corners_apart, corner_passed}
use Rattle.lean_engine.proofs.Engine.TargetLaws.{halves_within}
use Rattle.lean_engine.proofs.Engine.TestLaws.{IsNone, sized_one, sized_none, sized_clear, sized_apart}
use Rattle.fast_bounds.specs.FastAnswers.{real_cost_for, stated_cost_for, IsFastMadeBy, TellsOf}
use Rattle.fast_bounds.specs.FastCertified.{IsFastMadeWith}
use Rattle.fast_bounds.specs.FastMargin.{fast_margin_size, AfterFastMargin, HasFastMarginCause, PassesFastMargin, PassesSomeFastMargin, FastMarginCausesLaw, FastMarginPassingLaw}
use Rattle.fast_bounds.specs.FastMargin.{IsFastMarginBuilt, IsFastMarginBuiltAs, FastMarginLaw}
use Rattle.fast_bounds.specs.FastRefusals.{AreStepsFor, AreFastBitsOf, AfterFastBits, IsFastFine, HasFastAimCause, PassesFastAim, PassesSomeFastAim}
use Rattle.fast_bounds.specs.declared.generation.FastMade.{FastMade}
use Rattle.fast_bounds.proofs.FastAnswers.{told_as}
use Rattle.fast_bounds.proofs.FastCauses.{fast_aim_one, fast_aim_none, fast_aim_apart}
use Rattle.fast_bounds.proofs.FastPromise.{certified_law, cost_limited, supported_with}

-- ---- R
-- what has room for this machine's steps has room for the other's
pub margin_room : (m : Margin) → fast_margin_size m ≤ 2 ^ 126 → multiplier_size_of m ≤ 2 ^ 126
margin_room m h = close (2 ^ 16 * unsigned_abs m.cost) (multiplier_of m) h
  where
    close : (x r : ℕ) → max x (2 ^ 84 * r) ≤ 2 ^ 126 → max x (2 ^ 82 * r) ≤ 2 ^ 126
    close x r h = omega (arith, h)

pub margin_narrow : (m : Margin) (r : ℤ) → r ≡ pos (multiplier_of m) → fast_margin_size m ≤ 2 ^ 126 → r ≤ℤ pos (2 ^ 42)
margin_narrow m r e h = close (2 ^ 16 * unsigned_abs m.cost) (multiplier_of m) h e
  where
    close : (x n : ℕ) → max x (2 ^ 84 * n) ≤ 2 ^ 126 → r ≡ pos n → r ≤ℤ pos (2 ^ 42)
    close x n h e = rw e (omega (arith, ints, h))

-- ---- the promise
pub margin_law : FastMarginLaw
margin_law p plans c b h =
    let d = design_of p in
    let r = printed_multiplier b in
    let aim = aim_of (targets_of p) (margin_of b) in
    record {
      certified = certified_law.all p (form_of d) (real_errors d (form_of d) r c) c b r
          (supported_with p aim c 0 (omega arith) h.made (margin_repairs p plans (margin_of b) h.made.design h.policy h.margin h.slack)) h.bounds;
      within = halves_within p h.made.design c b r (real_cost_for p r c) (c.step_exponent + 2) (quarter_steps c.steps) _ (λ e. e + 2) (omega arith)
          h.made.steps.enough (cost_limited p aim c h.made) (λ i l. above (h.made.made.exponents.bounded i (subst (λ (n : ℕ). i < n) h.made.made.sizes.rows l))) h.bounds;
    }
  where
    above : {e s : ℕ} → e ≤ s → e + 2 ≤ s + 2
    above l = omega (arith, l)

-- ---- one refusal
pub margin_one_cause : FastMarginCausesLaw
margin_one_cause p plans t e other design policy =
    corners_one p plans (AfterFastMargin (design_of p) t) design policy
    (λ m. sized_one Multiplier _ _ (form_one (design_of p) (HasFastAimCause (design_of p) (aim_of t m)) (λ s h. fast_aim_one p (aim_of t m) design s))) e other

pub margin_no_cause : FastMarginPassingLaw
margin_no_cause p plans t m s k es f e design policy h =
    corners_none p plans (AfterFastMargin (design_of p) t) design policy m h.margin.room h.margin.margin h.margin.slack
    (sized_none Multiplier _ _ h.multiplier
    (form_none (design_of p) (HasFastAimCause (design_of p) (aim_of t m)) s h.form h.exponent (fast_aim_none p (aim_of t m) design s k es f h.aim))) e

pub margin_memory_apart : (d : Design) (t : Targets) (plans : Plans) → HasFastMarginCause d t plans Memory → ⊥
margin_memory_apart d t plans = corners_apart d plans (AfterFastMargin d t)
    (λ m. sized_apart Multiplier _ _ (form_apart d (HasFastAimCause d (aim_of t m)) (λ s. fast_aim_apart d (aim_of t m) s))) Memory refl

-- ---- none where something was made
-- where no test of an aim tells anything, whose steps are few enough and whose exponents and bits are known, it passes them all
fast_aim_clear : (d : Design) (a : Aim) (s k : ℕ) (es : List ℕ) (f : ℕ) → IsNone (HasFastAimCause d a s) → AreStepsFor a s k → k ≤ most_fast_steps → AreExponentsOf d s es →
    AreFastBitsOf d a s k es f → PassesFastAim d a s k es f
fast_aim_clear d a s k es f none steps few exponents bits =
    let error = sized_clear Error _ (Finds ℕ (IsFastFine d a s k es) (AreFastBitsOf d a s k es) (AfterFastBits d a s k)) (λ e h. none e (inr (k, (steps, few), inr (es, exponents, h)))) in
    let descent = sized_clear Descent _ (Sized Width (fast_width_size d (unsigned_abs a.r) s k f) Nothing) (λ e h. error.1 e (inr (f, bits, h))) in
    record { steps = steps; few = few; exponents = exponents; error = error.0; choice = bits; descent = descent.0; width = (sized_clear Width _ Nothing descent.1).0 }

-- a design with a policy that is refused for no reason passes every test, with the numbers of its controller
pub margin_passes : (p : DesignParts) (plans : Plans) (c : Numbers) (b : Printed) → ((e : Refusal) → HasFastMarginCause (design_of p) (targets_of p) plans e → ⊥) → IsFastMarginBuilt p plans c b →
    PassesFastMargin (design_of p) (targets_of p) plans (margin_of b) c.step_exponent c.steps c.exponents c.fraction_bits
margin_passes p plans c b none built =
    let d = design_of p in
    let t = targets_of p in
    let m = margin_of b in
    let made = built.made in
    let corners = corners_clear d plans (AfterFastMargin d t) m built.margin built.slack none in
    let multiplier = sized_clear Multiplier _ (OfForm d (HasFastAimCause d (aim_of t m))) corners.1 in
    let form = form_clear d (HasFastAimCause d (aim_of t m)) multiplier.1 in
    record {
      margin = record { room = corners.0; margin = built.margin; slack = built.slack };
      multiplier = multiplier.0;
      form = form.0;
      exponent = made.exponent;
      aim = fast_aim_clear d (aim_of t m) c.step_exponent c.steps c.exponents c.fraction_bits (form.1 c.step_exponent made.exponent) made.steps made.controller.form.sized.steps.1 made.exponents made.bits;
    }

-- ---- the refusals
module _ (d : Design) (t : Targets) (plans : Plans) (m : Margin) (before : PassesMargin d t plans m) where
  after : (e : Refusal) → AfterFastMargin d t m e → HasFastMarginCause d t plans e
  after e = corner_passed d plans (AfterFastMargin d t) e m before.room before.margin before.slack

  pub margin_wide : (quantity : Quantity) → (fast_margin_size m ≤ 2 ^ 126 → ⊥) → quantity ≡ Multiplier → (e : Refusal) → e ≡ TooWide quantity →
      IsRefusedFor (HasFastMarginCause d t plans) e
  margin_wide quantity refuted g e f = rw (f, g) (inr (after _ (inl (refl, above (fast_margin_size m) refuted))))
    where
      above : (n : ℕ) → (n ≤ 2 ^ 126 → ⊥) → 2 ^ 126 < n
      above n refuted = omega (arith, refuted)

  module _ (room : fast_margin_size m ≤ 2 ^ 126) where
    pub margin_form_caused : (e : Refusal) → IsRefusedFor (HasFormCause d) e → IsRefusedFor (HasFastMarginCause d t plans) e
    margin_form_caused = refused_map _ _ (λ e k. after e (inr (room, form_told d (HasFastAimCause d (aim_of t m)) e k)))

    pub margin_aim_caused : (s : ℕ) → PassesForm d → IsExponentOf d s → (e : Refusal) → IsRefusedFor (HasFastAimCause d (aim_of t m) s) e →
        IsRefusedFor (HasFastMarginCause d t plans) e
    margin_aim_caused s form exponent = refused_map _ _ (λ e k. after e (inr (room, form_passed d (HasFastAimCause d (aim_of t m)) e s form exponent k)))

-- ---- what is made
module _ (p : DesignParts) (plans : Plans) (m : Margin) (policy : IsPolicyFor (design_of p) plans) (before : PassesMargin (design_of p) (targets_of p) plans m) where
  margin_built : (made : FastMade) → IsFastMadeBy p (plain_terms (targets_of p) m) made → IsFastMarginBuiltAs p plans made
  margin_built made h = record {
    built = record {
      policy = policy;
      margin = subst (λ (x : Margin). IsMargin (design_of p) plans x) (sym same) before.margin;
      slack = subst (λ (x : Margin). pos 1 ≤ℤ x.units) (sym same) before.slack;
      made = subst (λ (x : Margin). IsFastMadeWith p (aim_of (targets_of p) x) c) (sym same) h.controller;
      lean = h.bounds.lean;
      bounds = subst (λ (x : Margin). AreBoundsWith c b (multiplier_of x) (cost x) (most x) (λ e. row_violation_bound (e + 2) s (multiplier_of x) k (cost x)) (most x)) (sym same)
          (subst (λ (n : ℕ). AreBoundsWith c b (multiplier_of m) (cost m) n rows n) (greatest_row s (multiplier_of m) k (cost m)) h.bounds.bounds);
    };
    errors = h.errors ∙ (λ i. pos (stated_cost_for (design_of p) (multiplier_of (sym same i)) c));
  }
    where
      c : Numbers
      c = made.controller

      b : Printed
      b = printed made.bounds

      s : ℕ
      s = c.step_exponent + 2

      k : ℕ
      k = quarter_steps c.steps

      same : margin_of b ≡ m
      same = λ i. record { units = h.bounds.units i; cost = h.bounds.corners i }

      cost : Margin → ℕ
      cost x = real_cost_for p (multiplier_of x) c

      most : Margin → ℕ
      most x = violation_bound s (multiplier_of x) k (cost x)

      rows : ℕ → ℕ
      rows e = row_violation_bound (e + 2) s (multiplier_of m) k (cost m)

  -- what is told of the terms of a margin is told of its policy
  pub margin_told : (s : ℕ) (x : Terms) (r : Result FastMade Refusal) → fast_margin_size m ≤ 2 ^ 126 → PassesForm (design_of p) → IsExponentOf (design_of p) s →
      x ≡ plain_terms (targets_of p) m →
      TellsOf FastMade (IsFastMadeBy p x) (PassesSomeFastAim (design_of p) x.aim s) (HasFastAimCause (design_of p) x.aim s) r →
      TellsOf FastMade (IsFastMarginBuiltAs p plans) (PassesSomeFastMargin (design_of p) (targets_of p) plans) (HasFastMarginCause (design_of p) (targets_of p) plans) r
  margin_told s x r room form exponent is h =
      told_as FastMade (IsFastMadeBy p (plain_terms (targets_of p) m)) _ _ _ _ _ r margin_built
      (λ k. (m, s, k.0, k.1, k.2, record { margin = before; multiplier = room; form = form; exponent = exponent; aim = k.3 }))
      (margin_aim_caused (design_of p) (targets_of p) plans m before room s form exponent)
      (subst (λ (y : Terms). TellsOf FastMade (IsFastMadeBy p y) (PassesSomeFastAim (design_of p) y.aim s) (HasFastAimCause (design_of p) y.aim s) r) is h)
