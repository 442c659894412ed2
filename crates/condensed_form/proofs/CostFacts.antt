-- The sums of the condensed cost fit.
use Rattle.std.proofs.Common.{◌≡◌, inl, inr, ℕ, zero, suc, ◌+◌, ◌*◌, ◌%◌, ◌^◌, ◌<◌, ◌≤◌, ℤ, pos, ◌+ℤ◌, ◌*ℤ◌, neg_ℤ, unsigned_abs, arith, ap, sym}
use Rattle.std.proofs.lemmas.Int.{ints, unsigned_abs-mul}
use Rattle.std.proofs.lemmas.Bool.Decides.{eqb_tells}
use Rattle.std.proofs.Math.Nat.{mul-le-mul_left, pow-le-pow_left}
use Rattle.integer_algebra.specs.Sums.{total, at, square}
use Rattle.integer_algebra.specs.Sizes.{size, product_size}
use Rattle.integer_algebra.proofs.SizeLaws.{total_size, at_size}
use Rattle.integer_algebra.proofs.PowerLaws.{pow-two}
use Rattle.qp_model.specs.declared.design_parts.DesignParts.{DesignParts}
use Rattle.qp_model.specs.problem.Design.{Design}
use Rattle.qp_model.specs.problem.Parts.{design_of, IsDesign}
use Rattle.qp_model.specs.form.Quantities.{weight_sum, response_size, cost_width, cost_entry_size}
use Rattle.qp_model.specs.problem.Runs.{counts}
use Rattle.qp_model.proofs.RunLaws.{abs-add_le}
use Rattle.qp_model.proofs.SizeFacts.{some_weight, some_cost}
use Rattle.qp_model.proofs.QuantityLaws.{weights_size, plan_cost_size, target_width, powered_size}
use Rattle.condensed_form.specs.Form.{response_scale}
use Rattle.condensed_form.specs.Costs.{plan_cost, weight_of, target_of, weighed, own_cost}
use Rattle.condensed_form.proofs.WeighedFacts.{products_room}

-- ---- plain numbers
pub square_le : (x : ℕ) → x ≤ x ^ 2
square_le zero = omega arith
square_le (suc x) = rw (pow-two (suc x)) (omega (arith, mul-le-mul_left (suc x) (one x)))
  where
    one : (x : ℕ) → 1 ≤ suc x
    one x = omega arith

-- a response's bound is within the limit where the entries' bound is
pub response_room : (p : DesignParts) → IsDesign p → cost_entry_size (design_of p) ≤ 2 ^ 126 → response_size (design_of p) ≤ 2 ^ 126
response_room p h k = last (weight_sum (design_of p)) (response_size (design_of p)) (some_weight p h) k
  where
    last : (w b : ℕ) → 1 ≤ w → 2 * w * b ^ 2 ≤ 2 ^ 126 → b ≤ 2 ^ 126
    last w b h k = omega (arith, square_le b, mul-le-mul_left (b ^ 2) h)

-- ---- weighted sums
-- the sum, with the inputs' part
pub weighed_size : (d : Design) (j : ℕ) (f : ℕ → ℤ) → ((c : ℕ) → c < counts d → unsigned_abs (f c) ≤ response_size d) →
    2 * product_size (counts d) (plan_cost d j) (λ c. weight_of d c *ℤ f c) + 2 * (d.stages * size d.inputs d.input_weight * response_size d ^ 2) ≤ cost_entry_size d
weighed_size d j f h = numbers _ _ _ d.cost_denominator _ (response_size d ^ 2)
    (products_room (counts d) (plan_cost d j) (weight_of d) f (response_size d) (plan_cost_size d j) h) (weights_size d)
  where
    numbers : (p s i e w x : ℕ) → p ≤ s * x → e + s + i ≤ w → 2 * p + 2 * (i * x) ≤ 2 * w * x
    numbers p s i e w x h k = omega (arith, mul-le-mul_left x k)

doubled_size : (z : ℤ) (e : ℕ) → unsigned_abs z ≤ e → unsigned_abs (pos 2 *ℤ z) ≤ 2 * e
doubled_size z e h = omega (arith, ints)

-- their absolute values
pub weighed_small : (d : Design) (j : ℕ) (f : ℕ → ℤ) → ((c : ℕ) → c < counts d → unsigned_abs (f c) ≤ response_size d) → unsigned_abs (weighed d j f) ≤ cost_entry_size d
weighed_small d j f h = last _ _ _ (doubled_size (total (counts d) (λ c. plan_cost d j c *ℤ (weight_of d c *ℤ f c))) _ (total_size (counts d) (λ c. plan_cost d j c *ℤ (weight_of d c *ℤ f c)))) (weighed_size d j f h)
  where
    last : (a b c : ℕ) {x : ℕ} → x ≤ 2 * a → 2 * a + b ≤ c → x ≤ c
    last a b c h k = omega arith

-- ---- the inputs' own costs
-- an input's weight times the square of what responses are over
pub own_size : (p : DesignParts) → IsDesign p → (l : ℕ) → l < p.inputs →
    unsigned_abs (at p.input_weights.items l) * response_scale (design_of p) ^ 2 ≤ p.stages * size p.inputs (at p.input_weights.items) * response_size (design_of p) ^ 2
own_size p h l o = numbers _ _ _ _ p.stages (at_size l p.inputs (at p.input_weights.items) o) h.stages.0 (pow-le-pow_left scale 2)
  where
    wide : (design_of p).row_denominator ≤ cost_width (design_of p)
    wide = omega arith

    turn : (a b c : ℕ) → b * a ≤ c → a * b ≤ c
    turn a b c h = omega arith

    scale : response_scale (design_of p) ≤ response_size (design_of p)
    scale = turn _ _ _ (powered_size (design_of p) (cost_width (design_of p)) (design_of p).row_denominator wide)

    numbers : (w s x y n : ℕ) → w ≤ s → 1 ≤ n → x ≤ y → w * x ≤ n * s * y
    numbers w s x y n h k o = omega (arith, mul-le-mul_left x h, mul-le-mul_left s o, mul-le-mul_left (s * y) k)

pub own_room : (p : DesignParts) → IsDesign p → (l : ℕ) → l < p.inputs → cost_entry_size (design_of p) ≤ 2 ^ 126 →
    2 * (unsigned_abs (at p.input_weights.items l) * response_scale (design_of p) ^ 2) ≤ 2 ^ 126
own_room p h l o k = last _ _ _ (response_size (design_of p) ^ 2) _ _ (own_size p h l o) (weights_size (design_of p)) k
  where
    last : (a i w x e s : ℕ) → a ≤ i * x → e + s + i ≤ w → 2 * w * x ≤ 2 ^ 126 → 2 * a ≤ 2 ^ 126
    last a i w x e s h k l = omega (arith, h, l, mul-le-mul_left x (under k))
      where
        under : e + s + i ≤ w → i ≤ w
        under k = omega arith

-- a square of a natural
pub square-pos : (m : ℕ) → square (pos m) ≡ pos (m ^ 2)
square-pos m = ap pos (sym (pow-two m))

-- the diagonal entry
pub diagonal_small : (p : DesignParts) → IsDesign p → (i j : ℕ) → unsigned_abs (weighed (design_of p) i (plan_cost (design_of p) j) +ℤ own_cost (design_of p) i j) ≤ cost_entry_size (design_of p)
diagonal_small p h i j = elim (eqb_tells i j) [
  | inl e ↦ rw e.0 (joined _ _ _ _ _ _ (abs-add_le (weighed d i (plan_cost d j)) own)
      (doubled_size (total (counts d) (λ c. plan_cost d i c *ℤ (weight_of d c *ℤ plan_cost d j c))) _ (total_size (counts d) (λ c. plan_cost d i c *ℤ (weight_of d c *ℤ plan_cost d j c))))
      (doubled_size (at p.input_weights.items (i % p.inputs) *ℤ square (pos (response_scale d))) _ own_small) (weighed_size d i (plan_cost d j) (plan_cost_size d j)))
  | inr e ↦ rw e.0 (alone (weighed d i (plan_cost d j)) _ (weighed_small d i (plan_cost d j) (plan_cost_size d j)))
]
  where
    d : Design
    d = design_of p

    inside : i % p.inputs < p.inputs
    inside = omega (arith, h.inputs.0)

    plain : (w : ℤ) (s top : ℕ) → unsigned_abs w * s ^ 2 ≤ top → unsigned_abs (w *ℤ square (pos s)) ≤ top
    plain w s top k = rw (square-pos s, unsigned_abs-mul w (pos (s ^ 2))) k

    own : ℤ
    own = pos 2 *ℤ (at p.input_weights.items (i % p.inputs) *ℤ square (pos (response_scale d)))

    own_small : unsigned_abs (at p.input_weights.items (i % p.inputs) *ℤ square (pos (response_scale d))) ≤ p.stages * size p.inputs (at p.input_weights.items) * response_size d ^ 2
    own_small = plain (at p.input_weights.items (i % p.inputs)) (response_scale d) (p.stages * size p.inputs (at p.input_weights.items) * response_size d ^ 2) (own_size p h (i % p.inputs) inside)

    joined : (a x y m i t : ℕ) → a ≤ x + y → x ≤ 2 * m → y ≤ 2 * i → 2 * m + 2 * i ≤ t → a ≤ t
    joined a x y m i t e f g k = omega arith

    alone : (z : ℤ) (t : ℕ) → unsigned_abs z ≤ t → unsigned_abs (z +ℤ pos 0) ≤ t
    alone z t k = omega (arith, ints)

-- ---- the targets
-- the denominator's power is within the limit
pub power_room : (p : DesignParts) → IsDesign p → cost_entry_size (design_of p) ≤ 2 ^ 126 → unsigned_abs p.plant_den ^ p.stages ≤ 2 ^ 126
power_room p h k = last _ _ (powered_size (design_of p) (cost_width (design_of p)) 1 (some_cost p h)) (response_room p h k)
  where
    last : (a b : ℕ) → a * 1 ≤ b → b ≤ 2 ^ 126 → a ≤ 2 ^ 126
    last a b h k = omega arith

-- and each target times it
pub target_size : (d : Design) (s : ℤ) (c : ℕ) → unsigned_abs s ≡ d.plant_denominator ^ d.stages → c < counts d → unsigned_abs s * unsigned_abs (target_of d c) ≤ response_size d
target_size d s c e l = rw e (powered_size d (cost_width d) _ (target_width d c l))

pub scaled_target_size : (d : Design) (s : ℤ) (c : ℕ) → unsigned_abs s ≡ d.plant_denominator ^ d.stages → c < counts d → unsigned_abs (s *ℤ target_of d c) ≤ response_size d
scaled_target_size d s c e l = rw (unsigned_abs-mul s (target_of d c)) (target_size d s c e l)

pub abs-neg : (m : ℕ) → unsigned_abs (neg_ℤ (pos m)) ≡ m
abs-neg m = omega (arith, ints)
