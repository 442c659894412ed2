-- A fault of a part has its cause as a refusal.
use Rattle.std.proofs.Common.{◌≡◌, inl, inr, ℕ, ◌^◌, ◌<◌, ◌≤◌, unsigned_abs, arith, ap, rules, refl, ◌∙◌}
use Rattle.qp_model.specs.problem.Design.{Design}
use Rattle.qp_model.specs.problem.Policy.{Plans}
use Rattle.qp_model.specs.declared.bounds.Margin.{Margin}
use Rattle.qp_model.specs.declared.quantity.Quantity.{Quantity}
use Rattle.qp_model.specs.declared.quantity.Quantity.TheVariants.{Excess, Multiplier}
use Rattle.plan_excess.specs.Fault.{IsExcessFault}
use Rattle.qp_model.specs.refusal.Refusing.{of_size}
use Rattle.qp_model.specs.declared.size_fault.SizeFault.{SizeFault}
use Rattle.qp_model.specs.declared.size_fault.SizeFault.TheVariants.{Memory as excess_memory, TooWide as excess_wide}
use Rattle.qp_model.specs.declared.refusal.Refusal.{Refusal}
use Rattle.qp_model.specs.declared.refusal.Refusal.TheVariants.{TooWide}
use Rattle.design_engine.specs.Targets.{Targets, floor_target}
use Rattle.design_engine.specs.Stages.{OfForm}
use Rattle.design_engine.specs.Tests.{IsRefusedFor, HasFormCause}
use Rattle.design_engine.specs.Refusals.{PassesMargin}
use Rattle.design_engine.specs.declared.aimed.Aim.{Aim}
use Rattle.design_engine.proofs.CauseCases.{refused_map}
use Rattle.design_engine.proofs.StageLaws.{form_told, form_passed, corner_passed}
use Rattle.lean_engine.specs.Refusals.{policy_excess, policy_excess_size, aim_at, PassesScaling, AfterExponent, HasLeanCauseBy}

-- by a machine
module _ (size : (units excess share : ℕ) → ℕ) (Aims : Design → Aim → ℕ → Refusal → Type 0) (d : Design) (t : Targets) (plans references : Plans) where
  abbrev Cause : Refusal → Type 0
  Cause = HasLeanCauseBy size Aims d t plans references

  abbrev After : Margin → ℕ → Refusal → Type 0
  After = AfterExponent size Aims d t plans references

  from_margin : (m : Margin) → PassesMargin d t plans m → (e : Refusal) → OfForm d (After m) e → Cause e
  from_margin m h e = corner_passed d plans (λ m. OfForm d (After m)) e m h.room h.margin h.slack

  -- ---- the form
  pub form_caused : (m : Margin) → PassesMargin d t plans m → (e : Refusal) → IsRefusedFor (HasFormCause d) e → IsRefusedFor Cause e
  form_caused m h = refused_map _ _ (λ e k. from_margin m h e (form_told d (After m) e k))

  module _ (m : Margin) (s : ℕ) (before : PassesScaling d t plans m s) where
    after : (e : Refusal) → After m s e → Cause e
    after e h = from_margin m before.margin e (form_passed d (After m) e s before.form before.exponent h)

    -- ---- the excess, and R
    pub excess_refused : (fault : SizeFault) → IsExcessFault (policy_excess_size d plans references) fault → (e : Refusal) → e ≡ of_size fault → IsRefusedFor Cause e
    excess_refused excess_memory h e f = inl f
    excess_refused (excess_wide quantity) (inl memory) e f = absurd (search rules)
    excess_refused (excess_wide quantity) (inr wide) e f = inr (after e (inl (f ∙ named quantity wide.0, wide.1)))
      where
        named : (quantity : Quantity) → excess_wide quantity ≡ excess_wide Excess → TooWide quantity ≡ TooWide Excess
        named quantity e = ap of_size e

    pub multiplier_refused : (x share : ℕ) (quantity : Quantity) → policy_excess_size d plans references ≤ 2 ^ 126 → x ≡ policy_excess d plans references → share ≡ floor_target t →
        (size (unsigned_abs m.units) x share ≤ 2 ^ 126 → ⊥) → quantity ≡ Multiplier → (e : Refusal) → e ≡ TooWide quantity → IsRefusedFor Cause e
    multiplier_refused x share quantity room f g refuted named e is =
        inr (after e (inr (room, inl (is ∙ ap (λ (q : Quantity). TooWide q) named, rw (f, g) at (above (size (unsigned_abs m.units) x share) refuted)))))
      where
        above : (n : ℕ) → (n ≤ 2 ^ 126 → ⊥) → 2 ^ 126 < n
        above n refuted = omega (arith, refuted)

  -- ---- the aim
  pub aim_caused : (m : Margin) (s : ℕ) → PassesScaling d t plans m s → policy_excess_size d plans references ≤ 2 ^ 126 →
      size (unsigned_abs m.units) (policy_excess d plans references) (floor_target t) ≤ 2 ^ 126 → (e : Refusal) → IsRefusedFor (Aims d (aim_at d t plans references m) s) e → IsRefusedFor Cause e
  aim_caused m s before excess multiplier = refused_map _ _ (λ e k. after m s before e (inr (excess, inr (multiplier, k))))
