-- Where the exact quantity `hessian` is within its limit, all sums of the one recipe's exact run are, before they are divided too.
use Rattle.std.proofs.Common.{inl, inr, ℕ, ◌+◌, ◌*◌, ◌^◌, ◌<◌, ◌≤◌, max, unsigned_abs, arith}
use Rattle.std.proofs.lemmas.Int.{ints}
use Rattle.std.proofs.lemmas.Bool.{cases_lt}
use Rattle.std.proofs.Math.Nat.{one-le-mul}
use Rattle.qp_model.specs.declared.design_parts.DesignParts.{DesignParts}
use Rattle.qp_model.specs.problem.Design.{entries}
use Rattle.mat_int.specs.Matrix.{entry_of}
use Rattle.qp_model.specs.problem.Parts.{IsDesign, design_of}
use Rattle.qp_model.specs.form.Quantities.{growth, plant_width, cost_width, weight_sum, prediction_size, hessian_size}
use Rattle.qp_model.proofs.CornerFacts.{greatest_le, product_small}
use Rattle.qp_model.proofs.SizeFacts.{square_under, factor_under, some_weight, some_cost, some_entry, numerators_size, numerator_entry, positive}
use Rattle.qp_model.proofs.VersionLaws.{design_states_le}
use Rattle.qp_model.specs.problem.Policy.{Plans}
use Rattle.qp_model.specs.bounds.CornerSizes.{policy_magnitude}
use Rattle.scaled_run.specs.ScaledLaws.{ExactRoomLaw}
use Rattle.scaled_run.specs.ScaledCorners.{ExactCornerRoomLaw}
use Rattle.scaled_run.proofs.SizeLaws.{prediction_is}

-- a number whose square is at most 2^126 is at most 2^63
pub root_small : (s : ℕ) → s * s ≤ 2 ^ 126 → s ≤ 2 ^ 63
root_small s h = elim (cases_lt (2 ^ 63) s) [
  | inl l ↦ absurd (clash (product_small (2 ^ 63 + 1) (2 ^ 63 + 1) s s (next l) (next l)))
  | inr l ↦ l
]
  where
    next : 2 ^ 63 < s → 2 ^ 63 + 1 ≤ s
    next l = omega (arith, l)

    clash : (2 ^ 63 + 1) * (2 ^ 63 + 1) ≤ s * s → ⊥
    clash k = omega (arith, k, h)

-- the plant of a design grows by at most 2^36
pub growth_small : (p : DesignParts) → IsDesign p → growth (design_of p) ≤ 2 ^ 36
growth_small p h = both _ _ (denominator p h) (greatest_le p.states (plant_width (design_of p)) (2 ^ 36) (λ i l. row i l))
  where
    both : (a b : ℕ) → a ≤ 2 ^ 36 → b ≤ 2 ^ 36 → max a b ≤ 2 ^ 36
    both a b h k = omega arith

    denominator : (p : DesignParts) → IsDesign p → unsigned_abs p.plant_den ≤ 2 ^ 36
    denominator p h = omega (arith, ints, h.plant_den.low, h.plant_den.high)

    row : (i : ℕ) → i < p.states → plant_width (design_of p) i ≤ 2 ^ 36
    row i l = sums p.states p.inputs _ _ (design_states_le p h) h.inputs.1
        (numerators_size p.states (entry_of p.a i) (λ j m. numerator_entry p.a h.a.numbers i j (inside l h.a.rows.0)))
        (numerators_size p.inputs (entry_of p.b i) (λ j m. numerator_entry p.b h.b.numbers i j (inside l h.b.rows.0)))
      where
        inside : {a b c : ℕ} → a < b → b ≤ c → a < c
        inside h k = omega (arith, h, k)

        sums : (n m a b : ℕ) → n ≤ 6 → m ≤ 3 → a ≤ 2 ^ 31 * n → b ≤ 2 ^ 31 * m → a + b ≤ 2 ^ 36
        sums n m a b h k l o = omega arith

-- the prediction, from the quantity `hessian`
prediction_small : (p : DesignParts) → IsDesign p → hessian_size (design_of p) ≤ 2 ^ 126 → prediction_size (design_of p) ≤ 2 ^ 63
prediction_small p h k =
    factor_under (cost_width (design_of p)) (prediction_size (design_of p)) (2 ^ 63) (some_cost p h)
    (root_small _ (square_under (count (entries (design_of p)) p.states (weight_sum (design_of p))) (cost_width (design_of p) * prediction_size (design_of p)) (2 ^ 126)
    (some (entries (design_of p)) p.states (weight_sum (design_of p)) (some_entry p h) (some_weight p h)) (turned (entries (design_of p)) p.states (weight_sum (design_of p)) _ k)))
  where
    count : (e n w : ℕ) → ℕ
    count e n w = e * (e + n + 1) * (2 * w)

    some : (e n w : ℕ) → 1 ≤ e → 1 ≤ w → 1 ≤ e * (e + n + 1) * (2 * w)
    some e n w h k = one-le-mul (one-le-mul h (omega arith)) (omega arith)

    turned : (e n w x : ℕ) → e * (e + n + 1) * (2 * w * x) ≤ 2 ^ 126 → e * (e + n + 1) * (2 * w) * x ≤ 2 ^ 126
    turned e n w x h = omega (arith, h)

pub exact_room_law : ExactRoomLaw
exact_room_law p h k =
    rw (prediction_is (design_of p) (positive p.plant_den h.plant_den.low))
    (product_small (growth (design_of p)) (prediction_size (design_of p)) (2 ^ 36) (2 ^ 63) (growth_small p h) (prediction_small p h k))

-- ---- corners
pub exact_corner_room_law : ExactCornerRoomLaw
exact_corner_room_law p s h k =
    product_small (growth (design_of p)) (policy_magnitude (design_of p) s * prediction_size (design_of p)) (2 ^ 36) (2 ^ 63) (growth_small p h)
    (factor_under (cost_width (design_of p)) (policy_magnitude (design_of p) s * prediction_size (design_of p)) (2 ^ 63) (some_cost p h)
    (turned (cost_width (design_of p)) (prediction_size (design_of p)) (policy_magnitude (design_of p) s)
    (root_small _ (square_under (weight_sum (design_of p)) (cost_width (design_of p) * prediction_size (design_of p) * policy_magnitude (design_of p) s) (2 ^ 126) (some_weight p h) k))))
  where
    turned : (c b m : ℕ) → c * b * m ≤ 2 ^ 63 → c * (m * b) ≤ 2 ^ 63
    turned c b m h = omega (arith, h)
