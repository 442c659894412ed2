-- Enclosures as one unit of the recipe: how far they reach, and what the quantities leave room for.
use Rattle.std.proofs.Common.{◌≡◌, ℕ, ◌+◌, ◌*◌, ◌^◌, ◌≤◌, ◌<◌, ℤ, unsigned_abs, arith, sym, subst, ◌∙◌}
use Rattle.std.proofs.lemmas.Int.{ints}
use Rattle.std.proofs.Math.Nat.{mul-le-mul}
use Rattle.integer_algebra.proofs.PowerLaws.{pow-two}
use Rattle.qp_model.specs.declared.design_parts.DesignParts.{DesignParts}
use Rattle.qp_model.specs.problem.Design.{entries, rows}
use Rattle.qp_model.specs.problem.Parts.{design_of, IsDesign}
use Rattle.qp_model.specs.problem.Range.{IsDenominator, IsPositive}
use Rattle.qp_model.specs.form.Quantities.{growth, cost_width, limit_width, weight_sum}
use Rattle.qp_model.specs.form.FineSizes.{fine_reach, fine_prediction_size, fine_response_size, fine_limit_entry_size, fine_rows_size}
use Rattle.qp_model.proofs.SizeFacts.{rows_parts, some_limit, some_row}
use Rattle.condensed_form.proofs.StateFacts.{denominator_positive}
use Rattle.scaled_run.proofs.Rooms.{reach_first}
use Rattle.scaled_run.proofs.SizeLaws.{fine_reach_is}
use Rattle.scaled_condense.specs.Lists.{IsScale}
use Rattle.scaled_condense.specs.Numbers.{fine_cost_total}
use Rattle.scaled_condense.proofs.ScaleLaws.{fine_scale_law, area_law}

-- ---- the reach
pub fine_first : (p : DesignParts) → IsDesign p → 2 ^ 40 ≤ fine_reach (design_of p) p.stages
fine_first p h = subst (λ (n : ℕ). 2 ^ 40 ≤ n) (sym (fine_reach_is (design_of p) (2 ^ 40) p.stages))
    (reach_first 3 (design_of p) (denominator_positive p.plant_den h.plant_den.low) (2 ^ 40) p.stages)

pub fine_scale : (p : DesignParts) (reach : ℕ) → IsDesign p → reach ≡ fine_reach (design_of p) p.stages → fine_prediction_size (design_of p) ≤ 2 ^ 126 → IsScale p (2 ^ 40) reach
fine_scale p reach h e k = subst (λ (n : ℕ). IsScale p (2 ^ 40) n) (sym (e ∙ fine_reach_is (design_of p) (2 ^ 40) p.stages))
    (fine_scale_law p h (subst (λ (n : ℕ). growth (design_of p) * n ≤ 2 ^ 126) (fine_reach_is (design_of p) (2 ^ 40) p.stages) k))

-- ---- the rooms
pub fine_area : (p : DesignParts) (reach : ℕ) → IsDesign p → reach ≡ fine_reach (design_of p) p.stages → fine_cost_total (design_of p) ≤ 2 ^ 126 →
    4 * (weight_sum (design_of p) * (cost_width (design_of p) * reach) ^ 2) ≤ 2 ^ 126
fine_area p reach h e k = area_law p reach h
    (subst (λ (n : ℕ). entries (design_of p) * (entries (design_of p) + p.states + 1) * (2 * weight_sum (design_of p) * (cost_width (design_of p) * n) ^ 2) ≤ 2 ^ 126) (sym e) k)

pub weighed_room : (p : DesignParts) → IsDesign p → fine_cost_total (design_of p) ≤ 2 ^ 126 → 2 * (weight_sum (design_of p) * fine_response_size (design_of p) ^ 2) ≤ 2 ^ 126
weighed_room p h k = half _ (area_law p (fine_reach (design_of p) p.stages) h k)
  where
    half : (n : ℕ) → 4 * n ≤ 2 ^ 126 → 2 * n ≤ 2 ^ 126
    half n h = omega (arith, h)

pub limit_room : (p : DesignParts) (reach : ℕ) → IsDesign p → reach ≡ fine_reach (design_of p) p.stages → fine_rows_size (design_of p) ≤ 2 ^ 126 → limit_width (design_of p) * reach ≤ 2 ^ 126
limit_room p reach h e k = subst (λ (n : ℕ). limit_width (design_of p) * n ≤ 2 ^ 126) (sym e)
    (rows_parts (entries (design_of p)) p.states (rows (design_of p)) (limit_width (design_of p)) (fine_reach (design_of p) p.stages) _ (some_row p h) (some_limit p h) k).0

-- a weight over 2^40
pub weight_room : (w r : ℤ) → IsPositive w → IsDenominator r → 2 ^ 40 * (unsigned_abs w * unsigned_abs r ^ 2) ≤ 2 ^ 124
weight_room w r h k = last (unsigned_abs w) (unsigned_abs r ^ 2) (omega (arith, ints, h.low, h.high)) (rw (pow-two (unsigned_abs r)) (squared (unsigned_abs r) (omega (arith, ints, k.low, k.high))))
  where
    squared : (a : ℕ) → a ≤ 2 ^ 20 → a * a ≤ 2 ^ 40
    squared a h = mul-le-mul h h

    last : (a b : ℕ) → a ≤ 2 ^ 31 → b ≤ 2 ^ 40 → 2 ^ 40 * (a * b) ≤ 2 ^ 124
    last a b h k = omega (arith, mul-le-mul h k)
