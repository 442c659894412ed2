-- The quantities of the corners in both classes, as code makes them.
use Rattle.std.proofs.Common.{◌≡◌, ℕ, ◌*◌, ◌^◌, ◌≤◌, max, Bool, true, false, Option, Some, None, ◌↔◌, arith, ap, ap₂, sym, subst, refl}
use Rattle.std.specs.Option.{SomeIff}
use Rattle.std.specs.Prelude.{IsTrue, is_some}
use Rattle.std.proofs.Math.Nat.{mul-le-mul_left}
use Rattle.qp_model.specs.declared.design_parts.DesignParts.{DesignParts}
use Rattle.qp_model.specs.problem.Design.{Design}
use Rattle.qp_model.specs.problem.Parts.{design_of, IsDesign}
use Rattle.qp_model.specs.problem.Policy.{Plans}
use Rattle.qp_model.specs.form.Class.{prediction_in}
use Rattle.qp_model.specs.form.Quantities.{growth, limit_width, cost_width, weight_sum, prediction_size}
use Rattle.qp_model.specs.form.FineSizes.{reach_from}
use Rattle.qp_model.specs.bounds.CornerSizes.{policy_magnitude, first_reach}
use Rattle.qp_model.specs.bounds.CornerClass.{corner_slack_in, corner_cost_in}
use Rattle.qp_model.proofs.SizeFacts.{some_limit}
use Rattle.scaled_run.specs.ScaledSizes.{scaled_reach_from}
use Rattle.scaled_run.proofs.SizeLaws.{fine_reach_is}
use Rattle.corner_margin.specs.Corner.{reach_in, states_in}

-- ---- the slacks' quantity, of which w is the widest limit row, r what the runs reach and g their states before they are divided
module _ (w r g : ℕ) where
  brought : 2 ^ 17 * w * r ≡ 2 ^ 17 * (w * r)
  brought = omega arith

  states_part : max (2 ^ 17 * w * r) g ≤ 2 ^ 126 → g ≤ 2 ^ 126
  states_part h = omega (arith, h)

  row_part : max (2 ^ 17 * w * r) g ≤ 2 ^ 126 → 2 ^ 17 * (w * r) ≤ 2 ^ 126
  row_part h = omega (arith, h, brought)

  both_parts : 2 ^ 17 * (w * r) ≤ 2 ^ 126 → g ≤ 2 ^ 126 → max (2 ^ 17 * w * r) g ≤ 2 ^ 126
  both_parts h k = omega (arith, h, k, brought)

-- in both classes
turned : (w b m : ℕ) → 2 ^ 17 * w * b * m ≡ 2 ^ 17 * (w * (m * b))
turned w b m = omega arith

pub slack_states : (fine : Bool) (p : DesignParts) (s : Plans) → IsDesign p → corner_slack_in fine (design_of p) s ≤ 2 ^ 126 → states_in fine (design_of p) s ≤ 2 ^ 126
slack_states true p s d h = states_part (limit_width (design_of p)) (reach_in true (design_of p) s) (states_in true (design_of p) s) h
slack_states false p s d h =
    last (limit_width (design_of p)) (reach_in false (design_of p) s) (some_limit p d) (rw (turned (limit_width (design_of p)) (prediction_size (design_of p)) (policy_magnitude (design_of p) s)) at h)
  where
    last : (w r : ℕ) → 1 ≤ w → 2 ^ 17 * (w * r) ≤ 2 ^ 126 → r ≤ 2 ^ 126
    last w r h k = omega (arith, mul-le-mul_left r h, k)

pub slack_row : (fine : Bool) (d : Design) (s : Plans) → corner_slack_in fine d s ≤ 2 ^ 126 → 2 ^ 17 * (limit_width d * reach_in fine d s) ≤ 2 ^ 126
slack_row true d s h = row_part (limit_width d) (reach_in true d s) (states_in true d s) h
slack_row false d s h = rw (turned (limit_width d) (prediction_size d) (policy_magnitude d s)) at h

pub slack_of : (fine : Bool) (d : Design) (s : Plans) → 2 ^ 17 * (limit_width d * reach_in fine d s) ≤ 2 ^ 126 → states_in fine d s ≤ 2 ^ 126 → corner_slack_in fine d s ≤ 2 ^ 126
slack_of true d s h k = both_parts (limit_width d) (reach_in true d s) (states_in true d s) h k
slack_of false d s h k = rw (turned (limit_width d) (prediction_size d) (policy_magnitude d s)) h

-- ---- the costs' quantity
pub cost_is : (fine : Bool) (d : Design) (s : Plans) → weight_sum d * (cost_width d * reach_in fine d s) ^ 2 ≡ corner_cost_in fine d s
cost_is true d s = refl
cost_is false d s = ap (λ (n : ℕ). weight_sum d * n ^ 2) (turn (cost_width d) (prediction_size d) (policy_magnitude d s))
  where
    turn : (a b m : ℕ) → a * (m * b) ≡ a * b * m
    turn a b m = omega arith

pub cost_limited : (b fine : Bool) (d : Design) (s : Plans) (reach : ℕ) → reach ≡ reach_in fine d s → IsTrue b ↔ (weight_sum d * (cost_width d * reach) ^ 2 ≤ 2 ^ 126) →
    IsTrue b ↔ (corner_cost_in fine d s ≤ 2 ^ 126)
cost_limited b fine d s reach e h =
    subst (λ (n : ℕ). IsTrue b ↔ (n ≤ 2 ^ 126)) (cost_is fine d s) (subst (λ (n : ℕ). IsTrue b ↔ (weight_sum d * (cost_width d * n) ^ 2 ≤ 2 ^ 126)) e h)

-- ---- what code makes of them
pub is_limited : (b : Bool) (r : Option ℕ) (n v : ℕ) → b ≡ is_some r → SomeIff r (n ≤ 2 ^ 126) v → IsTrue b ↔ (n ≤ 2 ^ 126)
is_limited b None n v e h = ((λ t. absurd (apart b e t)), (λ l. absurd (h l)))
  where
    apart : (b : Bool) → b ≡ false → b ≡ true → ⊥
    apart b h e = cc
is_limited b (Some x) n v e h = ((λ t. h.0), (λ l. e))

pub fine_prediction : (r : Option ℕ) (d : Design) → SomeIff r (growth d * scaled_reach_from 3 d (2 ^ 40) d.stages ≤ 2 ^ 126) (scaled_reach_from 3 d (2 ^ 40) d.stages) →
    SomeIff r (prediction_in true d ≤ 2 ^ 126) (reach_from d (2 ^ 40) d.stages)
fine_prediction r d h = subst (λ (n : ℕ). SomeIff r (growth d * n ≤ 2 ^ 126) n) (sym (fine_reach_is d (2 ^ 40) d.stages)) h

pub fine_made : (r : Option ℕ) (d : Design) (s : Plans) (first : ℕ) → first ≡ first_reach d s →
    SomeIff r (growth d * scaled_reach_from 3 d first d.stages ≤ 2 ^ 126) (scaled_reach_from 3 d first d.stages) → SomeIff r (states_in true d s ≤ 2 ^ 126) (reach_in true d s)
fine_made r d s first e h =
    subst (λ (n : ℕ). SomeIff r (growth d * n ≤ 2 ^ 126) n) (sym (fine_reach_is d (first_reach d s) d.stages))
    (subst (λ (n : ℕ). SomeIff r (growth d * scaled_reach_from 3 d n d.stages ≤ 2 ^ 126) (scaled_reach_from 3 d n d.stages)) e h)

pub exact_made : (r : Option ℕ) (d : Design) (s : Plans) (m x : ℕ) → m ≡ policy_magnitude d s → x ≡ prediction_size d → SomeIff r (m * x ≤ 2 ^ 126) (m * x) →
    SomeIff r (states_in false d s ≤ 2 ^ 126) (reach_in false d s)
exact_made r d s m x e f h = subst (λ (n : ℕ). SomeIff r (n ≤ 2 ^ 126) n) (ap₂ (λ (a b : ℕ). a * b) e f) h

-- parts of what is within the limit
pub row_within : (n : ℕ) → 2 ^ 17 * n ≤ 2 ^ 126 → n ≤ 2 ^ 126
row_within n h = omega (arith, h)

pub factor_within : (m x : ℕ) → 1 ≤ m → m * x ≤ 2 ^ 126 → x ≤ 2 ^ 126
factor_within m x h k = omega (arith, mul-le-mul_left x h, k)
