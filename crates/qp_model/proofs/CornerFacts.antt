-- The quantities of the corners: what stays below the limit where they do.
use Rattle.std.proofs.Common.{◌≡◌, ℕ, zero, suc, ◌*◌, ◌^◌, ◌%◌, ◌<◌, ◌≤◌, ℤ, pos, List, [], length, get_or, unsigned_abs, arith, ap, refl, ◌∙◌}
use Rattle.std.proofs.lemmas.Int.{ints}
use Rattle.std.proofs.lemmas.List.{get_or_read_under}
use Rattle.std.proofs.lemmas.Nat.{pow_pos, one_shl}
use Rattle.std.proofs.Math.Nat.{mul-le-mul_left, mul-le-mul_right, pow-le-pow_right, one-le-mul}
use Rattle.integer_algebra.specs.Sums.{at}
use Rattle.integer_algebra.proofs.PowerLaws.{pow_positive}
use Rattle.mat_int.specs.Matrix.{row_of, entry_of}
use Rattle.qp_model.specs.declared.design_parts.DesignParts.{DesignParts}
use Rattle.qp_model.specs.problem.Design.{Design, entries}
use Rattle.qp_model.specs.problem.Parts.{design_of, IsDesign}
use Rattle.qp_model.specs.problem.Policy.{Plans, IsPlanDenominator, IsPlanNumerator, IsPolicyFor}
use Rattle.qp_model.specs.form.Quantities.{greatest, growth, limit_width, cost_width, weight_sum, prediction_size}
use Rattle.qp_model.specs.bounds.CornerSizes.{corner_magnitude, policy_magnitude, corner_slack_size, corner_cost_size}
use Rattle.qp_model.proofs.SizeFacts.{positive, greatest_term, factor_under, side_under, some_limit, some_cost, some_weight}

-- ---- sizes of a plan's numbers
pub greatest_le : (n : ℕ) (f : ℕ → ℕ) (t : ℕ) → ((i : ℕ) → i < n → f i ≤ t) → greatest n f ≤ t
greatest_le zero f t h = omega arith
greatest_le (suc n) f t h = omega (arith, greatest_le n f t (λ i l. h i (omega arith)), h n (omega arith))

pub grid_small : (g : ℕ) → g ≤ 24 → 2 ^ g ≤ 2 ^ 24
grid_small g h = let some : 0 < 2 = omega arith in pow-le-pow_right some h

pub grid_is : (g : ℕ) → g ≤ 24 → 1 * 2 ^ g % 2 ^ 128 ≡ 2 ^ g
grid_is g h = one_shl g 128 (omega arith)

pub product_small : (a b s t : ℕ) → a ≤ s → b ≤ t → a * b ≤ s * t
product_small a b s t h k = omega (arith, mul-le-mul_left a k, mul-le-mul_right t h)

-- a plan's denominator, and its numerators
pub denominator_size : (z : ℤ) → IsPlanDenominator z → (1 ≤ unsigned_abs z) × (unsigned_abs z ≤ 2 ^ 40)
denominator_size z h = (omega (arith, ints, h.low), omega (arith, ints, h.low, h.high))

pub row_size : (p : Plans) (d : Design) (c : ℕ) → IsPolicyFor d p → c < 2 ^ d.states → greatest (length (row_of p.numerators c)) (λ j. unsigned_abs (at (row_of p.numerators c) j)) ≤ 2 ^ 63
row_size p d c f l = greatest_le _ _ _ (λ j o. under (at (row_of p.numerators c) j) (f.numerators c [] (omega (arith, f.rows)) j (pos 0) o))
  where
    under : (z : ℤ) → IsPlanNumerator z → unsigned_abs z ≤ 2 ^ 63
    under z h = omega arith

pub row_length : (p : Plans) (d : Design) (c : ℕ) → IsPolicyFor d p → c < 2 ^ d.states → length (row_of p.numerators c) ≡ entries d
row_length p d c f l = f.regular c [] (omega (arith, f.rows))

-- ---- the reach
plan_some : (d : Design) (p : Plans) (c : ℕ) → IsPolicyFor d p → c < 2 ^ d.states → 1 ≤ corner_magnitude d p c
plan_some d p c f l =
    let q = denominator_size (at p.denominators c) (f.denominators c (pos 0) (omega (arith, f.count))) in
    let some = one-le-mul q.0 (pow_pos d.grid) in
    omega (arith, some)

pub reach_some : (d : Design) (p : Plans) → IsPolicyFor d p → 1 ≤ policy_magnitude d p
reach_some d p f =
    let l : 0 < 2 ^ d.states = pow_pos d.states in
    omega (arith, plan_some d p 0 f l, greatest_term 0 (2 ^ d.states) (corner_magnitude d p) l)

-- ---- the quantities
left_under : (a b t : ℕ) → 1 ≤ b → a * b ≤ t → a ≤ t
left_under a b t h k = omega (arith, mul-le-mul_left a h)

power_some : (p : DesignParts) → IsDesign p → 1 ≤ prediction_size (design_of p)
power_some p h = pow_positive _ p.stages (grown p h)
  where
    grown : (p : DesignParts) → IsDesign p → 1 ≤ growth (design_of p)
    grown p h = omega (arith, positive p.plant_den h.plant_den.low)

pub slack_parts : (p : DesignParts) (plans : Plans) → IsDesign p → IsPolicyFor (design_of p) plans → corner_slack_size (design_of p) plans ≤ 2 ^ 126 →
    (2 ^ 17 * limit_width (design_of p) * prediction_size (design_of p) ≤ 2 ^ 126) × (2 ^ 17 * limit_width (design_of p) ≤ 2 ^ 126) × (prediction_size (design_of p) ≤ 2 ^ 126)
slack_parts p plans h f k =
    let row = left_under (2 ^ 17 * limit_width (design_of p) * prediction_size (design_of p)) _ _ (reach_some (design_of p) plans f) k in
    (row, left_under (2 ^ 17 * limit_width (design_of p)) _ _ (power_some p h) row, factor_under (2 ^ 17 * limit_width (design_of p)) _ _ (wide p h) row)
  where
    wide : (p : DesignParts) → IsDesign p → 1 ≤ 2 ^ 17 * limit_width (design_of p)
    wide p h = omega (arith, some_limit p h)

pub cost_parts : (p : DesignParts) (plans : Plans) → IsDesign p → IsPolicyFor (design_of p) plans → corner_cost_size (design_of p) plans ≤ 2 ^ 126 →
    (cost_width (design_of p) * prediction_size (design_of p) * policy_magnitude (design_of p) plans ≤ 2 ^ 126) × (cost_width (design_of p) * prediction_size (design_of p) ≤ 2 ^ 126) × (prediction_size (design_of p) ≤ 2 ^ 126)
cost_parts p plans h f k =
    let side = side_under (weight_sum (design_of p)) _ _ (some_weight p h) k in
    let row = left_under (cost_width (design_of p) * prediction_size (design_of p)) _ _ (reach_some (design_of p) plans f) side in
    (side, row, factor_under (cost_width (design_of p)) _ _ (some_cost p h) row)

-- from what the code has of them
pub cost_value : (weight w width c prediction b magnitude m response row : ℕ) → weight ≡ w → width ≡ c → prediction ≡ b → magnitude ≡ m →
    response ≡ width * prediction → row ≡ response * magnitude → weight * row ^ 2 ≡ w * (c * b * m) ^ 2
cost_value weight w width c prediction b magnitude m response row e f g h k l = rw (l, k, e, f, g, h) refl

pub slack_value : (width c prediction b magnitude m wide row : ℕ) → width ≡ c → prediction ≡ b → magnitude ≡ m →
    wide ≡ 2 ^ 17 * width → row ≡ wide * prediction → row * magnitude ≡ 2 ^ 17 * c * b * m
slack_value width c prediction b magnitude m wide row e f g k l = rw (l, k, e, f, g) refl

-- ---- what the code reads
pub over_is : (xs : List ℤ) (c n : ℕ) (x : ℤ) (over : ℕ) → x ≡ get_or xs c x → c < n → n ≡ length xs → over ≡ unsigned_abs x → over ≡ unsigned_abs (at xs c)
over_is xs c n x over h l e o = o ∙ ap unsigned_abs (get_or_read_under xs c n x (pos 0) h l e)

pub entries_is : (p : Plans) (d : Design) (c : ℕ) (row : List ℤ) (most : ℕ) → IsPolicyFor d p → c < 2 ^ d.states → row ≡ row_of p.numerators c →
    most ≡ greatest (length row) (λ j. unsigned_abs (at row j)) → (most ≡ greatest (entries d) (λ j. unsigned_abs (entry_of p.numerators c j))) × (most ≤ 2 ^ 63)
entries_is p d c row most f l e h =
    let g : most ≡ greatest (length (row_of p.numerators c)) (λ j. unsigned_abs (at (row_of p.numerators c) j)) = h ∙ ap (λ (xs : List ℤ). greatest (length xs) (λ j. unsigned_abs (at xs j))) e in
    (g ∙ ap (λ (n : ℕ). greatest n (λ j. unsigned_abs (entry_of p.numerators c j))) (row_length p d c f l), omega (arith, g, row_size p d c f l))
