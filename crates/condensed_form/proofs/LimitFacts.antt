-- What the quantity `curvature` of a condensed form is made of, and that none of it leaves 128 bits.
use Rattle.std.proofs.Common.{◌≡◌, ℕ, ◌+◌, ◌*◌, ◌/◌, ◌<◌, ◌≤◌, ◌^◌, ℤ, unsigned_abs, length, Bool, true, false, IsTrue, ◌↔◌, Option, Some, None, rules, arith, sym, ◌∙◌, refl, Fits, subst}
use Rattle.std.specs.Int.{w128}
use Rattle.std.specs.Option.{SomeIff, is_some}
use Rattle.std.proofs.lemmas.Int.{ints}
use Rattle.std.proofs.Math.Nat.{le_of_mul-le-mul_left, mul-div_cancel_left, mul-le-mul, mul-le-mul_right, one-le-mul, pow-le-pow_left}
use Rattle.integer_algebra.specs.Sizes.{amount}
use Rattle.integer_algebra.specs.Sums.{at}
use Rattle.integer_algebra.proofs.PowerLaws.{pow-two, pow_positive}
use Rattle.integer_algebra.proofs.SizeLaws.{amount_same, amount_more, amount_next}
use Rattle.qp_model.specs.declared.design_parts.DesignParts.{DesignParts}
use Rattle.qp_model.specs.form.Class.{form_in, hessian_in, cost_row_in, rows_in, product_row_in, row_quantity, curvature_with, HasLoweringRoom}
use Rattle.qp_model.specs.form.CurvatureSize.{CoversSquaresOf, limit_squares, floor_times}
use Rattle.qp_model.specs.problem.Design.{Design, entries, rows}
use Rattle.qp_model.specs.form.Form.{Form, farthest}
use Rattle.qp_model.specs.bounds.Least.{IsLeastBelow}
use Rattle.qp_model.specs.problem.Parts.{IsDesign, design_of}
use Rattle.qp_model.specs.form.Quantities.{input_floor, growth, cost_width, weight_sum, prediction_size, cost_entry_size, hessian_size}
use Rattle.qp_model.specs.problem.Range.{IsDenominator}
use Rattle.qp_model.proofs.SoundLaws.{least-met, weight_at}
use Rattle.condensed_form.specs.declared.condensed.Condensed.{Condensed}
use Rattle.condensed_form.specs.Form.{IsFormIn}
use Rattle.condensed_form.proofs.CostFacts.{square_le}
use Rattle.condensed_form.proofs.FormSums.{far_plan}

-- ---- the numbers of a design
pub record IsSmall (d : Design) : Type 0 where
  pub weight_one : 1 ≤ d.cost_denominator
  pub weight : d.cost_denominator ≤ 2 ^ 20
  pub cost_row : d.row_denominator ≤ 2 ^ 20
  pub limit_one : 1 ≤ d.limit_denominator
  pub limit : d.limit_denominator ≤ 2 ^ 20
  pub floor : input_floor d < 2 ^ 31

small_of : (z : ℤ) → IsDenominator z → (1 ≤ unsigned_abs z) × (unsigned_abs z ≤ 2 ^ 20)
small_of z h = (omega (arith, ints, h.low), omega (arith, ints, h.low, h.high))

pub small : (p : DesignParts) → IsDesign p → IsSmall (design_of p)
small p h =
    let low = least-met p.inputs (λ l. unsigned_abs (at p.input_weights.items l)) h.inputs.0 in
    let b = weight_at p h low.0 low.1.0 in
    record {
      weight_one = (small_of p.cost_den h.cost_den).0;
      weight = (small_of p.cost_den h.cost_den).1;
      cost_row = (small_of p.row_den h.row_den).1;
      limit_one = (small_of p.limit_den h.limit_den).0;
      limit = (small_of p.limit_den h.limit_den).1;
      floor = omega (arith, ints, low.1.1, b.low, b.high);
    }

pub unit_small : (d : Design) → IsSmall d → (d.limit_denominator * d.limit_denominator ≤ 2 ^ 40) × (input_floor d * (d.limit_denominator * d.limit_denominator) ≤ 2 ^ 80)
unit_small d h =
    let a = mul-le-mul {n₁ = d.limit_denominator} {m₁ = d.limit_denominator} {n₂ = 2 ^ 20} {m₂ = 2 ^ 20} h.limit h.limit in
    let b = mul-le-mul {n₁ = input_floor d} {m₁ = d.limit_denominator * d.limit_denominator} {n₂ = 2 ^ 31} {m₂ = 2 ^ 20 * 2 ^ 20} (omega (arith, h.floor)) a in
    (omega (arith, a), omega (arith, b))

-- ---- what the rows are over, divided by the limits' denominator
abbrev lift_in : (fine : Bool) → Design → ℕ
lift_in true d = 2 ^ 40
lift_in false d = d.plant_denominator ^ d.stages

lifted : (fine : Bool) (d : Design) → d.limit_denominator * lift_in fine d ≡ (form_in fine d).rows_scale
lifted true d = refl
lifted false d = refl

pub lift_is : (fine : Bool) (p : DesignParts) → IsDesign p → (x y : ℕ) → x ≡ (form_in fine (design_of p)).rows_scale → y ≡ (design_of p).limit_denominator →
    (design_of p).limit_denominator * (x / y) ≡ (form_in fine (design_of p)).rows_scale
lift_is fine p h x y e g = rw (e, g, ← (lifted fine (design_of p)), mul-div_cancel_left (lift_in fine (design_of p)) {n = (design_of p).limit_denominator} (small p h).limit_one) refl

-- the plant's denominator, over all stages, is at most what numbers grow by
power_room : (p : DesignParts) → IsDesign p → let d = design_of p in
    d.cost_denominator * (d.plant_denominator ^ d.stages * d.plant_denominator ^ d.stages) ≤ hessian_size d
power_room p h =
    let d = design_of p in
    let a = d.plant_denominator ^ d.stages in
    let b = cost_width d * prediction_size d in
    let up : a ≤ prediction_size d = pow-le-pow_left {n = d.plant_denominator} {m = growth d} (omega arith) d.stages in
    let one : 1 ≤ cost_width d = omega (arith, (small_of p.row_den h.row_den).0) in
    let wide : a ≤ b = (let q = mul-le-mul_right (prediction_size d) one in omega (arith, q, up)) in
    let square : a * a ≤ b ^ 2 = rw (pow-two b) (mul-le-mul {n₁ = a} {m₁ = a} {n₂ = b} {m₂ = b} wide wide) in
    let weight : d.cost_denominator ≤ weight_sum d = omega arith in
    let some : 1 ≤ entries d = one-le-mul h.stages.0 h.inputs.0 in
    let product = mul-le-mul {n₁ = d.cost_denominator} {m₁ = a * a} {n₂ = weight_sum d} {m₂ = b ^ 2} weight square in
    let count : 1 ≤ entries d * (entries d + d.states + 1) = one-le-mul some (omega arith) in
    let all = mul-le-mul_right (cost_entry_size d) count in
    omega (arith, product, all)

lift_room : (fine : Bool) (p : DesignParts) (c : Condensed) → IsFormIn fine p c → let d = design_of p in
    d.cost_denominator * (lift_in fine d * lift_in fine d) ≤ 2 ^ 126
lift_room true p c f = let w = (small p f.design).weight in omega (arith, w)
lift_room false p c f = let r = power_room p f.design in omega (arith, r, f.sizes.cost_room)

lift_some : (fine : Bool) (p : DesignParts) → IsDesign p → 1 ≤ lift_in fine (design_of p)
lift_some true p h = omega arith
lift_some false p h = pow_positive (unsigned_abs p.plant_den) p.stages (small_of p.plant_den h.plant_den).0

pub record IsSmallPart (d : Design) (a : ℕ) : Type 0 where
  pub low : 1 ≤ a * a
  pub high : a * a ≤ 2 ^ 126
  pub times : d.cost_denominator * (a * a) ≤ 2 ^ 126

pub part_small : (fine : Bool) (p : DesignParts) (c : Condensed) → IsFormIn fine p c → (a : ℕ) → (design_of p).limit_denominator * a ≡ (form_in fine (design_of p)).rows_scale →
    IsSmallPart (design_of p) a
part_small fine p c f a e =
    let d = design_of p in
    let s = small p f.design in
    let l = lift_in fine d in
    rw (cancelled d.limit_denominator a l s.limit_one (e ∙ sym (lifted fine d))) (
    let q = mul-le-mul_right (l * l) s.weight_one in
    let o = lift_some fine p f.design in
    let t = lift_room fine p c f in
    record { low = one-le-mul o o; high = omega (arith, q, t); times = t })
  where
    cancelled : (l x y : ℕ) → 1 ≤ l → l * x ≡ l * y → x ≡ y
    cancelled l x y o k = both (le_of_mul-le-mul_left {m = x} {n = y} {k = l} (omega (arith, k)) o) (le_of_mul-le-mul_left {m = y} {n = x} {k = l} (omega (arith, k)) o)
      where
        both : x ≤ y → y ≤ x → x ≡ y
        both p q = omega (arith, p, q)

-- ---- the squares
-- one more
pub record IsNextSquare (f : ℕ → ℕ) (j x s : ℕ) : Type 0 where
  pub far : Fits w128 x
  pub square : Fits w128 (x * x)
  pub fits : Fits w128 (s + x * x)
  pub is : s + x * x ≡ amount (j + 1) (λ j. f j ^ 2)

pub next_square : (n : ℕ) (f : ℕ → ℕ) (j x s : ℕ) → j < n → x ≡ f j → s ≡ amount j (λ j. f j ^ 2) → amount n (λ j. f j ^ 2) ≤ 2 ^ 126 → IsNextSquare f j x s
next_square n f j x s l e g h =
    let t = amount_next j n (λ j. f j ^ 2) l in
    let m = amount_more j (λ j. f j ^ 2) in
    let q = square_le (f j) in
    let w = pow-two (f j) in
    rw e (record {
      far = omega (arith, t, q, h);
      square = omega (arith, t, w, h);
      fits = omega (arith, t, w, g, h);
      is = omega (arith, m, w, g);
    })

pub squares_are : (fine : Bool) (p : DesignParts) (c : Condensed) → IsFormIn fine p c →
    amount (length c.g.rows) (λ i. amount c.g.cols (λ j. far_plan c i j ^ 2)) ≡ limit_squares (form_in fine (design_of p))
squares_are fine p c f =
    let h = form_in fine (design_of p) in
    rw (f.shapes.g.rows, f.shapes.g.cols, f.encloses.encloses.row_count, f.encloses.encloses.entry_count)
    (amount_same (rows (design_of p)) _ _ (λ i l. amount_same (entries (design_of p)) _ _ (λ j o.
    far (f.same.by_plan i j (rw f.encloses.encloses.row_count l) (rw f.encloses.encloses.entry_count o))
    (f.same.plan_radius i j (rw f.encloses.encloses.row_count l) (rw f.encloses.encloses.entry_count o)))))
  where
    far : {x y : ℤ} {a b : ℕ} → x ≡ y → a ≡ b → farthest x a ^ 2 ≡ farthest y b ^ 2
    far {x} {y} {a} {b} e g = rw (e, g) refl

-- ---- what code tests
covers_as : (d : Design) (h : Form) (s w q f l a : ℕ) → w ≡ d.cost_denominator → q ≡ limit_squares h → f ≡ input_floor d → l ≡ d.limit_denominator → d.limit_denominator * a ≡ h.rows_scale →
    (w * q ≤ 2 ^ s * (f * (l * l)) * (a * a) → CoversSquaresOf d h s) × (CoversSquaresOf d h s → w * q ≤ 2 ^ s * (f * (l * l)) * (a * a))
covers_as d h s w q f l a ew eq ef el ea = (λ t. moved (w * q) _ (d.cost_denominator * limit_squares h) _ left right t, λ t. moved _ _ _ _ (sym left) (sym right) t)
  where
    left : w * q ≡ d.cost_denominator * limit_squares h
    left = rw (ew, eq) refl

    right : 2 ^ s * (f * (l * l)) * (a * a) ≡ floor_times d h s
    right = rw (ef, el) (turn (2 ^ s) (input_floor d) d.limit_denominator a h.rows_scale ea)
      where
        turn : (p i l a r : ℕ) → l * a ≡ r → p * (i * (l * l)) * (a * a) ≡ p * i * r ^ 2
        turn p i l a r e = rw (← e, pow-two (l * a)) (omega arith)

    moved : (a b x y : ℕ) → a ≡ x → b ≡ y → a ≤ b → x ≤ y
    moved a b x y e f h = omega (arith, e, f, h)

pub covers_by : (d : Design) (h : Form) (o : Option ℕ) (w q f l a : ℕ) → w ≡ d.cost_denominator → q ≡ limit_squares h → f ≡ input_floor d → l ≡ d.limit_denominator →
    d.limit_denominator * a ≡ h.rows_scale → IsLeastBelow 41 (λ s. w * q ≤ 2 ^ s * (f * (l * l)) * (a * a)) o → IsLeastBelow 41 (CoversSquaresOf d h) o
covers_by d h None w q f l a ew eq ef el ea b = λ k m t. b k m ((covers_as d h k w q f l a ew eq ef el ea).1 t)
covers_by d h (Some s) w q f l a ew eq ef el ea b = (
  b.0,
  record {
    holds = (covers_as d h s w q f l a ew eq ef el ea).0 b.1.holds;
    least = λ k m t. b.1.least k m ((covers_as d h k w q f l a ew eq ef el ea).1 t);
  },
)

-- ---- what a row comes to
pub cost_row_by : (fine : Bool) (d : Design) (b : Bool) (size n : ℕ) → b ≡ fine → size ≡ hessian_in fine d → n ≡ entries d → row_quantity b size n ≡ cost_row_in fine d
cost_row_by fine d b size n e g h = rw (e, g, h) (same fine)
  where
    same : (fine : Bool) → row_quantity fine (hessian_in fine d) (entries d) ≡ cost_row_in fine d
    same true = refl
    same false = refl

-- with the quantity `rows` itself
pub own_row : (fine : Bool) (d : Design) → row_quantity fine (rows_in fine d) (entries d) ≡ product_row_in fine d
own_row true d = refl
own_row false d = refl

-- the two tests where rows may count up to 2^4 times
pub lowering_by : (fine : Bool) (d : Design) (size raised : ℕ) → size ≡ rows_in fine d → size ≤ 2 ^ 122 → raised ≡ 16 * size
    → (curvature_with fine d raised ≤ 2 ^ 126) → HasLoweringRoom fine d
lowering_by fine d size raised e narrow up h =
    let is : raised ≡ 2 ^ 4 * rows_in fine d = omega (arith, up, e) in
    record { rows = omega (arith, e, narrow); curvature = subst (λ (n : ℕ). curvature_with fine d n ≤ 2 ^ 126) is h }

pub lowering_back : (fine : Bool) (d : Design) (size raised : ℕ) → size ≡ rows_in fine d → raised ≡ 16 * size → HasLoweringRoom fine d
    → (size ≤ 2 ^ 122) × (curvature_with fine d raised ≤ 2 ^ 126)
lowering_back fine d size raised e up h =
    let is : 2 ^ 4 * rows_in fine d ≡ raised = omega (arith, up, e) in
    (omega (arith, e, h.rows), subst (λ (n : ℕ). curvature_with fine d n ≤ 2 ^ 126) is h.curvature)

pub limited_by : (r : Option ℕ) (b : Bool) (n : ℕ) → b ≡ is_some r → SomeIff r (n ≤ 2 ^ 126) n → IsTrue b ↔ (n ≤ 2 ^ 126)
limited_by None b n e h = rw e (λ t. absurd (not_true t), λ l. absurd (h l))
  where
    not_true : ¬ IsTrue false
    not_true t = search rules
limited_by (Some x) b n e h = rw e (λ t. h.0, λ l. search rules)
