-- The denominators fit.
use Rattle.std.proofs.Common.{◌≡◌, ℕ, ◌+◌, ◌*◌, ◌^◌, ◌<◌, ◌≤◌, min, List, length, below_more, ℤ, pos, negsuc, ◌*ℤ◌, ◌≤ℤ◌, unsigned_abs, FitsSigned, arith, ◌∙◌, refl}
use Rattle.std.specs.Int.{w128, int_min}
use Rattle.std.proofs.lemmas.Int.{ints, clamps, by_lt_z, to_z-of_z}
use Rattle.std.proofs.lemmas.List.Elements.{All-get_or}
use Rattle.std.proofs.Math.Nat.{mul-le-mul_left, pow-le-pow_left}
use Rattle.integer_algebra.proofs.PowerLaws.{pow-two}
use Rattle.integer_algebra.specs.Sums.{at}
use Rattle.qp_model.specs.declared.design_parts.DesignParts.{DesignParts}
use Rattle.qp_model.specs.problem.Parts.{design_of, IsDesign}
use Rattle.qp_model.specs.problem.Range.{IsDenominator, IsPositive}
use Rattle.qp_model.specs.form.Quantities.{weight_sum, cost_width, limit_width, response_size, cost_entry_size, limit_entry_size}
use Rattle.qp_model.proofs.SizeFacts.{some_weight}
use Rattle.qp_model.proofs.QuantityLaws.{powered_size}
use Rattle.condensed_form.specs.Form.{IsLeastInput, response_scale}
use Rattle.condensed_form.proofs.Rooms.{read, narrow}
use Rattle.condensed_form.proofs.CostFacts.{own_room}

-- ---- naturals as integers
pub natural : (z : ℤ) → pos 1 ≤ℤ z → z ≡ pos (unsigned_abs z)
natural (pos n) h = refl
natural (negsuc n) h = absurd (omega (arith, ints))

pub denominator_fits : (z : ℤ) → IsDenominator z → FitsSigned w128 z
denominator_fits z h = omega (arith, ints, h.low, h.high)

module _ (r w : ℤ) (a m : ℕ) (fr : FitsSigned w128 r) (fw : FitsSigned w128 w) (er : r ≡ pos a) (ew : w ≡ pos m) (h : a * m ≤ 2 ^ 126) where
  pub naturals : read r *ℤ read w ≡ pos (a * m)
  naturals = rw (to_z-of_z w128 r fr, to_z-of_z w128 w fw, er, ew) refl

  pub naturals_fit : FitsSigned w128 (read r *ℤ read w)
  naturals_fit = rw naturals (narrow (pos (a * m)) h)

  pub naturals_read : read (read r *ℤ read w) ≡ pos (a * m)
  naturals_read = to_z-of_z w128 _ naturals_fit ∙ naturals

-- ---- what the responses are over
pub scale_size : (p : DesignParts) → unsigned_abs p.row_den * unsigned_abs p.plant_den ^ p.stages ≤ response_size (design_of p)
scale_size p = turn _ _ _ (powered_size (design_of p) (cost_width (design_of p)) (unsigned_abs p.row_den) wide)
  where
    wide : unsigned_abs p.row_den ≤ cost_width (design_of p)
    wide = omega arith

    turn : (a b c : ℕ) → b * a ≤ c → a * b ≤ c
    turn a b c h = omega arith

pub square_size : (p : DesignParts) → IsDesign p → cost_entry_size (design_of p) ≤ 2 ^ 126 → response_scale (design_of p) * response_scale (design_of p) ≤ 2 ^ 126
square_size p h k = rw (← (pow-two (response_scale (design_of p)))) (last _ _ _ (pow-le-pow_left (scale_size p) 2) (some_weight p h) k)
  where
    last : (a b w : ℕ) → a ≤ b → 1 ≤ w → 2 * w * b ≤ 2 ^ 126 → a ≤ 2 ^ 126
    last a b w h k l = omega (arith, mul-le-mul_left b k)

-- ---- the least of a list
module _ (xs : List ℤ) (i : ℕ) (least next : ℤ) (e : next ≡ int_min least (at xs i)) where
  pub least_below : ((k : ℕ) → k < i → least ≤ℤ at xs k) → (k : ℕ) → k < i + 1 → next ≤ℤ at xs k
  least_below h = below_more _ _ (λ k l. under (h k l)) (omega (arith, ints, clamps, e))
    where
      under : {z : ℤ} → least ≤ℤ z → next ≤ℤ z
      under h = omega (arith, ints, clamps, e, h)

  pub least_met : i < length xs → ((k : ℕ) × ((k < length xs) × (least ≡ at xs k))) → (k : ℕ) × ((k < length xs) × (next ≡ at xs k))
  least_met l m = by_lt_z (at xs i) least (λ o. (i, (l, omega (arith, ints, clamps, e, o)))) (λ o. (m.0, (m.1.0, omega (arith, ints, clamps, e, o, m.1.1))))

-- ---- the least input weight
pub least_weight : (p : DesignParts) → IsDesign p → (xs : List ℤ) (w : ℤ) → xs ≡ p.input_weights.items → ((l : ℕ) → l < length xs → w ≤ℤ at xs l) →
    ((l : ℕ) × ((l < length xs) × (w ≡ at xs l))) → IsLeastInput (design_of p) w
least_weight p h xs w e b m =
    let below : (l : ℕ) → l < length p.input_weights.items → w ≤ℤ at p.input_weights.items l = rw e at b in
    let met : (l : ℕ) × ((l < length p.input_weights.items) × (w ≡ at p.input_weights.items l)) = rw e at m in
    record { below = λ l o. below l (rw h.input_count o); met = (met.0, (rw (← h.input_count) met.1.0, met.1.1)) }

pub least_is : (p : DesignParts) → IsDesign p → (rho : ℤ) → IsLeastInput (design_of p) rho → IsPositive rho
least_is p h rho k = rw k.met.1.1 (All-get_or IsPositive p.input_weights.items k.met.0 (pos 0) (rw h.input_count k.met.1.0) h.input_weights)

pub least_room : (p : DesignParts) → IsDesign p → (rho : ℤ) → IsLeastInput (design_of p) rho → cost_entry_size (design_of p) ≤ 2 ^ 126 →
    2 * (unsigned_abs rho * response_scale (design_of p) ^ 2) ≤ 2 ^ 126
least_room p h rho k l = rw k.met.1.1 (own_room p h k.met.0 k.met.1.0 l)

-- ---- the floor
pub floor_some : (d s r a b f t : ℕ) → a ≡ d → b ≡ 2 * (r * s) → a * b ≤ t → f ≡ a * b → f ≡ min (2 * d * s * r) t
floor_some d s r a b f t e g h k = rw k (joined (rw (e, g) turn))
  where
    turn : d * (2 * (r * s)) ≡ 2 * d * s * r
    turn = omega arith

    joined : a * b ≡ 2 * d * s * r → a * b ≡ min (2 * d * s * r) t
    joined x = omega arith

pub floor_none : (d s r a b t : ℕ) → a ≡ d → b ≡ 2 * (r * s) → t < a * b → t ≡ min (2 * d * s * r) t
floor_none d s r a b t e g h = joined (rw (e, g) turn)
  where
    turn : d * (2 * (r * s)) ≡ 2 * d * s * r
    turn = omega arith

    joined : a * b ≡ 2 * d * s * r → t ≡ min (2 * d * s * r) t
    joined x = omega arith

-- ---- the denominators of the form
pub hess_den_room : (p : DesignParts) → IsDesign p → cost_entry_size (design_of p) ≤ 2 ^ 126 → unsigned_abs p.cost_den * response_scale (design_of p) ^ 2 ≤ 2 ^ 126
hess_den_room p h k = last _ _ (weight_sum (design_of p)) _ (pow-le-pow_left (scale_size p) 2) weight k
  where
    weight : unsigned_abs p.cost_den ≤ weight_sum (design_of p)
    weight = omega arith

    last : (c a w b : ℕ) → a ≤ b → c ≤ w → 2 * w * b ≤ 2 ^ 126 → c * a ≤ 2 ^ 126
    last c a w b h k l = omega (arith, mul-le-mul_left c h, mul-le-mul_left b k, l)

pub row_den_room : (p : DesignParts) → limit_entry_size (design_of p) ≤ 2 ^ 126 → unsigned_abs p.limit_den * unsigned_abs p.plant_den ^ p.stages ≤ 2 ^ 126
row_den_room p k = last _ _ _ (powered_size (design_of p) (limit_width (design_of p)) (unsigned_abs p.limit_den) wide) k
  where
    wide : unsigned_abs p.limit_den ≤ limit_width (design_of p)
    wide = omega arith

    last : (a b c : ℕ) → b * a ≤ c → c ≤ 2 ^ 126 → a * b ≤ 2 ^ 126
    last a b c h k = omega arith

pub size_fits : (z : ℤ) (n : ℕ) → z ≡ pos n → n ≤ 2 ^ 126 → FitsSigned w128 z
size_fits z n e h = rw e (narrow (pos n) h)
