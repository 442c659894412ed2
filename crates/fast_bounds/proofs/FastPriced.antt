-- What is made with a slack, an excess and R.
use Rattle.std.proofs.Common.{◌≡◌, ℕ, ◌*◌, ◌^◌, ◌≤◌, max, ℤ, pos, ◌≤ℤ◌, unsigned_abs, arith, ap, subst, sym, ◌∙◌, Result}
use Rattle.std.proofs.lemmas.Int.{ints}
use Rattle.qp_model.specs.problem.Parts.{design_of}
use Rattle.qp_model.specs.problem.Policy.{Plans, IsPolicyFor}
use Rattle.qp_model.specs.bounds.CornerClass.{IsMargin}
use Rattle.qp_model.specs.bounds.Choices.{lean_multiplier, lean_multiplier_size}
use Rattle.qp_model.specs.bounds.Printed.{printed}
use Rattle.qp_model.specs.declared.design_parts.DesignParts.{DesignParts}
use Rattle.qp_model.specs.declared.bounds.Margin.{Margin}
use Rattle.qp_model.specs.declared.refusal.Refusal.{Refusal}
use Rattle.dual_bounds.specs.FastSteps.{fast_multiplier_size}
use Rattle.lean_engine.specs.Engine.Targets.{targets_of}
use Rattle.lean_engine.specs.Engine.declared.bounds.Terms.{Terms}
use Rattle.lean_engine.proofs.PricedFacts.{Priced, built_by}
use Rattle.lean_engine.proofs.RefusalFacts.{aim_caused}
use Rattle.lean_engine.specs.Refusals.{policy_excess_size, PassesScaling}
use Rattle.fast_bounds.specs.FastAnswers.{real_cost_for, stated_cost_for, IsFastMadeBy, IsFastBuiltAs, TellsOf}
use Rattle.fast_bounds.specs.FastCertified.{IsFastMadeWith, AreFastThresholdBoundsOf}
use Rattle.fast_bounds.specs.FastRefusals.{fast_multiplier_size_at, HasFastAimCause, HasFastCause, PassesSomeFastAim, PassesSomeFast}
use Rattle.fast_bounds.specs.declared.generation.FastMade.{FastMade}
use Rattle.fast_bounds.proofs.FastAnswers.{told_as}

-- ---- R
-- what has room for this machine's steps has room for the other's
pub room_of : (units excess share : ℕ) → fast_multiplier_size units excess share ≤ 2 ^ 126 → lean_multiplier_size units excess share ≤ 2 ^ 126
room_of units excess share h = close excess (lean_multiplier units excess share) h
  where
    close : (x r : ℕ) → max x (2 ^ 84 * r) ≤ 2 ^ 126 → max x (2 ^ 82 * r) ≤ 2 ^ 126
    close x r h = omega (arith, h)

pub bound_narrow : (units excess share : ℕ) (r : ℤ) → r ≡ pos (lean_multiplier units excess share) → fast_multiplier_size units excess share ≤ 2 ^ 126 → r ≤ℤ pos (2 ^ 42)
bound_narrow units excess share r e h = close excess (lean_multiplier units excess share) h e
  where
    close : (x n : ℕ) → max x (2 ^ 84 * n) ≤ 2 ^ 126 → r ≡ pos n → r ≤ℤ pos (2 ^ 42)
    close x n h e = rw e (omega (arith, ints, h))

-- by the target as it is read
pub bound_of_target : (units excess : ℕ) (z : ℤ) (t : ℕ) (r : ℤ) → z ≡ pos t →
    (fast_multiplier_size units excess (unsigned_abs z) ≤ 2 ^ 126) × (r ≡ pos (lean_multiplier units excess (unsigned_abs z))) →
    (fast_multiplier_size units excess t ≤ 2 ^ 126) × (r ≡ pos (lean_multiplier units excess t))
bound_of_target units excess z t r e h = (
  subst (λ (n : ℕ). fast_multiplier_size units excess n ≤ 2 ^ 126) (ap unsigned_abs e) h.0,
  h.1 ∙ ap (λ (n : ℕ). pos (lean_multiplier units excess n)) (ap unsigned_abs e),
)

-- ---- what is made
module _ (p : DesignParts) (plans references : Plans) (m : Margin) (policy : IsPolicyFor (design_of p) plans) (reference : IsPolicyFor (design_of p) references) where
  fast_built : (made : FastMade) → IsMargin (design_of p) plans m → pos 1 ≤ℤ m.units → IsFastMadeBy p (Priced p plans references m policy reference) made → IsFastBuiltAs p plans references made
  fast_built made margin slack h = record {
    built = built_by p plans references m policy reference (IsFastMadeWith p) (λ c b r threshold. AreFastThresholdBoundsOf c b r threshold (real_cost_for p r c)) made.controller (printed made.bounds)
        margin slack h.bounds.units h.bounds.corners h.bounds.lean h.controller h.bounds.bounds;
    errors = h.errors ∙ (λ i. pos (stated_cost_for (design_of p) (unsigned_abs (sym h.bounds.bounds.multiplier i)) made.controller));
  }

  -- what is told of them is told of the policy and the reference plans
  pub fast_told : (s : ℕ) (x : Terms) (r : Result FastMade Refusal) → PassesScaling (design_of p) (targets_of p) plans m s →
      policy_excess_size (design_of p) plans references ≤ 2 ^ 126 → fast_multiplier_size_at (design_of p) (targets_of p) plans references m ≤ 2 ^ 126 → x ≡ Priced p plans references m policy reference →
      TellsOf FastMade (IsFastMadeBy p x) (PassesSomeFastAim (design_of p) x.aim s) (HasFastAimCause (design_of p) x.aim s) r →
      TellsOf FastMade (IsFastBuiltAs p plans references) (PassesSomeFast (design_of p) (targets_of p) plans references)
      (HasFastCause (design_of p) (targets_of p) plans references) r
  fast_told s x r before excess multiplier is h =
      told_as FastMade (IsFastMadeBy p (Priced p plans references m policy reference)) _ _ _ _ _ r (λ made. fast_built made before.margin.margin before.margin.slack)
      (λ k. (m, s, k.0, k.1, k.2, record { margin = before.margin; form = before.form; exponent = before.exponent; excess = excess; multiplier = multiplier; aim = k.3 }))
      (aim_caused fast_multiplier_size HasFastAimCause (design_of p) (targets_of p) plans references m s before excess multiplier)
      (subst (λ (y : Terms). TellsOf FastMade (IsFastMadeBy p y) (PassesSomeFastAim (design_of p) y.aim s) (HasFastAimCause (design_of p) y.aim s) r) is h)
