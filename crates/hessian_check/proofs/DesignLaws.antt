-- What the exponents of a design's matrices are for its trajectories.
use Rattle.std.proofs.Common.{◌≡◌, ℕ, zero, suc, ◌+◌, ◌-◌, ◌*◌, ◌^◌, ◌<◌, ◌≤◌, [], ◌∷◌, ℤ, pos, negsuc, ◌+ℤ◌, ◌-ℤ◌, ◌*ℤ◌, ◌≤ℤ◌, ◌<ℤ◌, unsigned_abs, arith, ap, sym, ◌∙◌, refl}
use Rattle.std.proofs.lemmas.Int.{ints, unsigned_abs-mul}
use Rattle.integer_algebra.specs.Bounds.{IsWithin}
use Rattle.std.proofs.lemmas.Nat.{pow_pos}
use Rattle.std.proofs.Math.Nat.{le_of_mul-le-mul_left, mul-le-mul, mul-le-mul_left, one-le-mul}
use Rattle.integer_algebra.specs.Division.{floor_of}
use Rattle.integer_algebra.specs.Sizes.{amount}
use Rattle.integer_algebra.specs.Sums.{total, image, square, none}
use Rattle.integer_algebra.proofs.OrderLaws.{le_by, square_nonneg_z, mul-le-mul_left_z, cancel-le_z, pos_positive, mul_pos_z}
use Rattle.integer_algebra.proofs.PowerLaws.{pow-two, four-pow}
use Rattle.integer_algebra.proofs.Quoting.{by_ring, quotes}
use Rattle.integer_algebra.proofs.SumLaws.{total_same, total_scale}
use Rattle.integer_algebra.proofs.VectorLaws.{dot_same, image_none, quadratic_scale}
use Rattle.qp_model.specs.problem.Design.{Design, CostRow, entries, rows}
use Rattle.qp_model.specs.form.Condensed.{Condensed, IsCondensed}
use Rattle.qp_model.specs.form.Condensing.{condensed_of, over_costs, cost_plan, own_input}
use Rattle.qp_model.specs.form.Quantities.{input_floor}
use Rattle.qp_model.specs.problem.Cost.{cost_scale}
use Rattle.qp_model.specs.form.CurvatureSize.{limit_squares, floor_times}
use Rattle.qp_model.specs.form.Curvature.{AreExponents, IsExponent, curvature, row_change}
use Rattle.qp_model.specs.form.Form.{Form, EnclosesDesign, farthest, rows_scale}
use Rattle.qp_model.specs.problem.Residual.{residual, residual_scale}
use Rattle.qp_model.specs.problem.Sound.{IsSound}
use Rattle.qp_model.proofs.CurvatureLaws.{hessian_law, curvature_law}
use Rattle.hessian_check.specs.Dominance.{IsSymmetric, form}
use Rattle.hessian_check.specs.Curvature.{BoundsRows, IsFloored, CoversAll}
use Rattle.hessian_check.specs.Steps.{curved_by, curved_of, floor_of_design, weighted_of}
use Rattle.integer_algebra.proofs.SizeLaws.{amount_same}
use Rattle.integer_algebra.proofs.AmountLaws.{amount_mono, amount_scale}

-- ---- half the hessian
pub half_two : (x : ℤ) → floor_of (pos 2 *ℤ x) 2 ≡ x
half_two (pos n) = omega (arith, ints)
half_two (negsuc n) = let e : pos 2 *ℤ negsuc n ≡ negsuc (2 * n + 1) = omega (arith, ints) in rw e (ap negsuc (omega arith))

costs_two : (d : Design) (f : ℕ → CostRow → ℤ) → over_costs d (λ k r. pos 2 *ℤ f k r) ≡ pos 2 *ℤ over_costs d f
costs_two d f = joined (total d.stages (λ k. total d.stage_costs (λ r. f (suc k) (d.stage_cost r)))) (total d.final_costs (λ r. f d.stages (d.final_cost r)))
    (total_same d.stages _ _ (λ k l. total_scale d.stage_costs (pos 2) (λ r. f (suc k) (d.stage_cost r))) ∙
    total_scale d.stages (pos 2) (λ k. total d.stage_costs (λ r. f (suc k) (d.stage_cost r))))
    (total_scale d.final_costs (pos 2) (λ r. f d.stages (d.final_cost r)))
  where
    joined : (x y : ℤ) {a b : ℤ} → a ≡ pos 2 *ℤ x → b ≡ pos 2 *ℤ y → a +ℤ b ≡ pos 2 *ℤ (x +ℤ y)
    joined x y e g = omega (arith, ints, e, g)

-- the hessian is even
pub hessian_even : (d : Design) (i j : ℕ) → (condensed_of d).hessian i j ≡ pos 2 *ℤ (curved_of d).half i j
hessian_even d i j = doubled _ (over_costs d (λ k r. r.weight *ℤ (cost_plan d k r i *ℤ cost_plan d k r j)) +ℤ
    total d.stages (λ k. total d.inputs (λ l. d.input_weight l *ℤ (own_input d k l i *ℤ own_input d k l j)))) (joined
    (over_costs d (λ k r. r.weight *ℤ (cost_plan d k r i *ℤ cost_plan d k r j)))
    (total d.stages (λ k. total d.inputs (λ l. d.input_weight l *ℤ (own_input d k l i *ℤ own_input d k l j))))
    (costs_two d (λ k r. r.weight *ℤ (cost_plan d k r i *ℤ cost_plan d k r j)))
    (total_same d.stages _ _ (λ k l. total_scale d.inputs (pos 2) (λ l. d.input_weight l *ℤ (own_input d k l i *ℤ own_input d k l j))) ∙
    total_scale d.stages (pos 2) (λ k. total d.inputs (λ l. d.input_weight l *ℤ (own_input d k l i *ℤ own_input d k l j)))))
  where
    joined : (x y : ℤ) {a b : ℤ} → a ≡ pos 2 *ℤ x → b ≡ pos 2 *ℤ y → a +ℤ b ≡ pos 2 *ℤ (x +ℤ y)
    joined x y e g = omega (arith, ints, e, g)

    doubled : (h x : ℤ) → h ≡ pos 2 *ℤ x → h ≡ pos 2 *ℤ floor_of h 2
    doubled h x e = rw (e, half_two x) refl

pub half_turned : (d : Design) → IsCondensed d (condensed_of d) → IsSymmetric (entries d) (curved_of d).half
half_turned d c i j l m = ap (λ (z : ℤ). floor_of z 2) (c.symmetric i j l m)

-- ---- rows and cost of a plan
-- the change of a row is that of the condensed rows
pub change_is : (d : Design) (k : Condensed) → IsCondensed d k → (v : ℕ → ℤ) (i : ℕ) → i < rows d →
    row_change d v i ≡ pos (2 ^ d.grid) *ℤ image (entries d) k.by_plan v i
change_is d k c v i l =
    closed (pos (2 ^ d.grid)) (image (entries d) k.by_plan v i) (image (entries d) k.by_plan none i)
    (pos 1 *ℤ (image d.states k.by_state none i -ℤ pos (2 ^ d.grid) *ℤ k.bound i)) (residual d (pos 1) none v i) (residual d (pos 1) none none i)
    (c.rows (pos 1) none v i l) (c.rows (pos 1) none none i l) (image_none (entries d) k.by_plan i)
  where
    closed : (g x n o a b : ℤ) → a ≡ g *ℤ x +ℤ o → b ≡ g *ℤ n +ℤ o → n ≡ pos 0 → a -ℤ b ≡ g *ℤ x
    closed g x n o a b e f h = rw (e, f, h) (by_ring (g ∷ x ∷ o ∷ []) (search quotes depth 60 fits 20000) refl)

-- the weighted squares of all of them
changes_are : (d : Design) (w : ℕ → ℕ) (k : Condensed) → IsCondensed d k → (v : ℕ → ℤ) →
    total (rows d) (λ i. pos (w i) *ℤ square (row_change d v i)) ≡
    square (pos (2 ^ d.grid)) *ℤ total (rows d) (λ i. pos (w i) *ℤ square (image (entries d) k.by_plan v i))
changes_are d w k c v =
    total_same (rows d) _ _ (λ i l. ap (λ (z : ℤ). pos (w i) *ℤ square z) (change_is d k c v i l) ∙ apart (pos (w i)) (pos (2 ^ d.grid)) (image (entries d) k.by_plan v i)) ∙
    total_scale (rows d) (square (pos (2 ^ d.grid))) (λ i. pos (w i) *ℤ square (image (entries d) k.by_plan v i))
  where
    apart : (w g x : ℤ) → w *ℤ square (g *ℤ x) ≡ square g *ℤ (w *ℤ square x)
    apart w g x = by_ring (w ∷ g ∷ x ∷ []) (search quotes depth 60 fits 20000) refl

-- the form of the hessian is twice that of its half
form_two : (d : Design) (v : ℕ → ℤ) → form (entries d) (condensed_of d).hessian v ≡ pos 2 *ℤ form (entries d) (curved_of d).half v
form_two d v =
    dot_same (entries d) v _ _ (λ i l. total_same (entries d) _ _ (λ j m. ap (λ (z : ℤ). z *ℤ v j) (hessian_even d i j))) ∙
    quadratic_scale (entries d) (pos 2) (curved_of d).half v

curvature_is : (d : Design) → IsCondensed d (condensed_of d) → (v : ℕ → ℤ) → curvature d v ≡ square (pos (2 ^ d.grid)) *ℤ form (entries d) (curved_of d).half v
curvature_is d c v = halved (curvature d v) (square (pos (2 ^ d.grid))) (form (entries d) (curved_of d).half v) _ _
    (hessian_law d (condensed_of d) c v) (ap pos (four-pow d.grid)) (form_two d v)
  where
    halved : (x g f h q : ℤ) → pos 2 *ℤ x ≡ q *ℤ h → q ≡ g → h ≡ pos 2 *ℤ f → x ≡ g *ℤ f
    halved x g f h q e i l =
        let t : pos 2 *ℤ x ≡ g *ℤ (pos 2 *ℤ f) = rw (← i, ← l) e in
        let u = turn g f in
        omega (arith, ints, t, u)
      where
        turn : (g f : ℤ) → g *ℤ (pos 2 *ℤ f) ≡ pos 2 *ℤ (g *ℤ f)
        turn g f = by_ring (g ∷ f ∷ []) (search quotes depth 60 fits 20000) refl

-- ---- the scales
cost_scale_is : (d : Design) → pos (cost_scale d) ≡ pos d.cost_denominator *ℤ square (pos d.row_denominator *ℤ pos (2 ^ d.grid) *ℤ pos (d.plant_denominator ^ d.stages))
cost_scale_is d = ap pos (ap (λ n. d.cost_denominator * n) (pow-two (d.row_denominator * 2 ^ d.grid * d.plant_denominator ^ d.stages)))

residual_scale_is : (d : Design) (s : ℕ) → pos (2 ^ s * residual_scale d ^ 2) ≡
    pos (2 ^ s) *ℤ square (pos d.limit_denominator *ℤ pos (2 ^ d.grid) *ℤ pos (d.plant_denominator ^ d.stages))
residual_scale_is d s = ap pos (ap (λ n. 2 ^ s * n) (pow-two (residual_scale d)))

-- ---- exponents of the matrices are those of the trajectories
pub exponents_of : (d : Design) (s : ℕ → ℕ) (most : ℕ) → IsCondensed d (condensed_of d) → ((i : ℕ) → i < rows d → s i ≤ most) →
    BoundsRows (curved_by d s most) most → AreExponents d s most
exponents_of d s most c b h = record {
  bounded = b;
  descent = λ v. closed (pos (cost_scale d)) (pos (2 ^ most * residual_scale d ^ 2)) _ (curvature d v)
      (pos d.cost_denominator) (pos d.row_denominator) (pos (2 ^ d.grid)) (pos (d.plant_denominator ^ d.stages)) (pos d.limit_denominator) (pos (2 ^ most))
      (total (rows d) (λ i. pos (2 ^ (most - s i)) *ℤ square (image (entries d) (condensed_of d).by_plan v i))) (form (entries d) (curved_of d).half v)
      (cost_scale_is d) (residual_scale_is d most) (changes_are d (λ i. 2 ^ (most - s i)) (condensed_of d) c v) (curvature_is d c v) (h v);
}
  where
    closed : (y z t u w r g a l p x f : ℤ) → y ≡ w *ℤ square (r *ℤ g *ℤ a) → z ≡ p *ℤ square (l *ℤ g *ℤ a) → t ≡ square g *ℤ x → u ≡ square g *ℤ f →
        (w *ℤ square r *ℤ x) ≤ℤ (p *ℤ square l *ℤ f) → (y *ℤ t) ≤ℤ (z *ℤ u)
    closed y z t u w r g a l p x f ey ez et eu h = rw (ey, ez, et, eu) (le_by (mul-le-mul_left_z (square (g *ℤ a *ℤ g)) (square_nonneg_z (g *ℤ a *ℤ g)) h)
        (by_ring (w ∷ r ∷ g ∷ a ∷ l ∷ p ∷ x ∷ f ∷ []) (search quotes depth 60 fits 20000) refl))

-- one for all rows
pub exponent_of : (d : Design) (s : ℕ) → IsCondensed d (condensed_of d) → BoundsRows (curved_of d) s → IsExponent d s
exponent_of d s c h = exponents_of d (λ i. s) s c (λ i l. omega arith) (moved (s - s) (omega arith))
  where
    moved : (z : ℕ) → z ≡ 0 → BoundsRows (weighted_of d (λ i. 2 ^ z)) s
    moved z e = rw e h

-- ---- the floor of the cost
pub floored : (d : Design) → IsSound d (input_floor d) → IsCondensed d (condensed_of d) → IsFloored (curved_of d) (floor_of_design d)
floored d sound c v = closed (pos (cost_scale d)) (curvature d v) (pos (input_floor d * (d.plant_denominator ^ d.stages) ^ 2))
    (pos d.cost_denominator) (pos d.row_denominator) (pos (2 ^ d.grid)) (pos (d.plant_denominator ^ d.stages)) (pos (input_floor d))
    (total (entries d) (λ j. square (v j))) (form (entries d) (curved_of d).half v)
    (mul_pos_z _ _ (pos_positive d.cost_denominator sound.cost_denominator) (pos_positive (2 ^ d.grid * 2 ^ d.grid) (one-le-mul (pow_pos d.grid) (pow_pos d.grid))))
    (cost_scale_is d) (curvature_is d c v) (ap pos (ap (λ n. input_floor d * n) (pow-two (d.plant_denominator ^ d.stages)))) (curvature_law d (input_floor d) sound v)
  where
    closed : (y u q w r g a o x f : ℤ) → pos 0 <ℤ (w *ℤ square g) → y ≡ w *ℤ square (r *ℤ g *ℤ a) → u ≡ square g *ℤ f → q ≡ o *ℤ square a →
        (o *ℤ y *ℤ x) ≤ℤ (w *ℤ u) → (square r *ℤ q *ℤ x) ≤ℤ f
    closed y u q w r g a o x f k ey eu eq h = cancel-le_z (w *ℤ square g) _ _ k (le_by (rw (ey, eu) at h)
        (rw eq (by_ring (w ∷ r ∷ g ∷ a ∷ o ∷ x ∷ f ∷ []) (search quotes depth 60 fits 20000) refl)))

-- ---- the test of the squares

sum_pos : (x y : ℕ) {a b : ℤ} → a ≡ pos x → b ≡ pos y → a +ℤ b ≡ pos (x + y)
sum_pos x y e f = omega (arith, ints, e, f)

-- those of the first n entries of a row
squares_row : (n : ℕ) (f : ℕ → ℤ) → total n (λ j. square (f j)) ≡ pos (amount n (λ j. unsigned_abs (f j) ^ 2))
squares_row zero f = refl
squares_row (suc n) f = sum_pos _ _ (squares_row n f) (own (f n))
  where
    own : (z : ℤ) → square z ≡ pos (unsigned_abs z ^ 2)
    own (pos n) = ap pos (sym (pow-two n))
    own (negsuc n) = ap pos (sym (pow-two (suc n)))

squares_are : (m n : ℕ) (g : ℕ → ℕ → ℤ) → total m (λ i. pos 1 *ℤ total n (λ j. square (g i j))) ≡ pos (amount m (λ i. amount n (λ j. unsigned_abs (g i j) ^ 2)))
squares_are zero n g = refl
squares_are (suc m) n g = sum_pos _ _ (squares_are m n g) (once (squares_row n (g m)))
  where
    once : {x : ℤ} {y : ℕ} → x ≡ pos y → pos 1 *ℤ x ≡ pos y
    once {x} {y} e = omega (arith, ints, e)

-- the squares of numbers that lie within radii of others, over another scale
squares_within : (m n q r : ℕ) (x f : ℕ → ℕ → ℕ) → ((i j : ℕ) → i < m → j < n → q * x i j ≤ r * f i j) →
    q * q * amount m (λ i. amount n (λ j. x i j ^ 2)) ≤ r * r * amount m (λ i. amount n (λ j. f i j ^ 2))
squares_within m n q r x f h = joined (scaled q x) (scaled r f) (amount_mono m _ _ (λ i l. amount_mono n _ _ (λ j o. entry (x i j) (f i j) (h i j l o))))
  where
    entry : (a b : ℕ) → q * a ≤ r * b → q * q * a ^ 2 ≤ r * r * b ^ 2
    entry a b k = rw (pow-two a, pow-two b) (let t = mul-le-mul {n₁ = q * a} {m₁ = q * a} {n₂ = r * b} {m₂ = r * b} k k in omega (arith, t))

    scaled : (t : ℕ) (y : ℕ → ℕ → ℕ) → amount m (λ i. amount n (λ j. t * t * y i j ^ 2)) ≡ t * t * amount m (λ i. amount n (λ j. y i j ^ 2))
    scaled t y = amount_same m _ _ (λ i l. amount_scale n (t * t) (λ j. y i j ^ 2)) ∙ amount_scale m (t * t) (λ i. amount n (λ j. y i j ^ 2))

    joined : {a b x y : ℕ} → a ≡ x → b ≡ y → a ≤ b → x ≤ y
    joined {a} {b} {x} {y} e g k = omega (arith, e, g, k)

-- a form of the design whose squares, each number at its farthest, are covered
pub covers : (d : Design) (h : Form) → EnclosesDesign d h → 1 ≤ h.rows_scale → (s : ℕ) → d.cost_denominator * limit_squares h ≤ floor_times d h s →
    CoversAll (curved_of d) (floor_of_design d) s
covers d h k o s t = raised (squares_are (rows d) (entries d) (condensed_of d).by_plan)
    (cancelled h.rows_scale (rows_scale d) d.cost_denominator squares _ (2 ^ s * input_floor d) o within (rw (k.row_count, k.entry_count) at t))
  where
    squares : ℕ
    squares = amount (rows d) (λ i. amount (entries d) (λ j. unsigned_abs ((condensed_of d).by_plan i j) ^ 2))

    within : h.rows_scale * h.rows_scale * amount (rows d) (λ i. amount (entries d) (λ j. unsigned_abs ((condensed_of d).by_plan i j) ^ 2)) ≤
        rows_scale d * rows_scale d * amount (rows d) (λ i. amount (entries d) (λ j. farthest (h.numbers.by_plan i j) (h.plan_radius i j) ^ 2))
    within = squares_within (rows d) (entries d) h.rows_scale (rows_scale d) (λ i j. unsigned_abs ((condensed_of d).by_plan i j))
        (λ i j. farthest (h.numbers.by_plan i j) (h.plan_radius i j))
        (λ i j l m. entry h.rows_scale (rows_scale d) ((condensed_of d).by_plan i j) (h.numbers.by_plan i j) (h.plan_radius i j) (k.plan i j l m))
      where
        entry : (q r : ℕ) (x y : ℤ) (a : ℕ) → IsWithin (pos (r * a)) (pos q *ℤ x -ℤ pos r *ℤ y) → q * unsigned_abs x ≤ r * (unsigned_abs y + a)
        entry q r x y a w = let e = numbers (pos q *ℤ x) (pos r *ℤ y) _ _ _ (unsigned_abs-mul (pos q) x) (unsigned_abs-mul (pos r) y) w in omega (arith, e)
          where
            numbers : (u v : ℤ) (b c g : ℕ) → unsigned_abs u ≡ b → unsigned_abs v ≡ c → IsWithin (pos g) (u -ℤ v) → b ≤ c + g
            numbers u v b c g e f w = omega (arith, ints, e, f, w.below, w.above)

    cancelled : (q r w x y g : ℕ) → 1 ≤ q → q * q * x ≤ r * r * y → w * y ≤ g * q ^ 2 → w * x ≤ g * (r * r)
    cancelled q r w x y g o a b =
        let e = mul-le-mul_left w a in
        let f = mul-le-mul_left (r * r) (rw (pow-two q) at b) in
        le_of_mul-le-mul_left {m = w * x} {n = g * (r * r)} {k = q * q} (omega (arith, e, f)) (one-le-mul o o)

    raised : {x : ℤ} → x ≡ pos squares → d.cost_denominator * squares ≤ 2 ^ s * input_floor d * (rows_scale d * rows_scale d) →
        (pos d.cost_denominator *ℤ x) ≤ℤ (pos (2 ^ s) *ℤ square (pos d.limit_denominator) *ℤ floor_of_design d)
    raised {x} e g = rw e (numbers _ _ _ g (turn (2 ^ s) (input_floor d) d.limit_denominator (d.plant_denominator ^ d.stages)))
      where
        numbers : (a b c : ℕ) → a ≤ b → b ≡ c → pos a ≤ℤ pos c
        numbers a b c h e = omega (arith, ints, h, e)

        turn : (p i l a : ℕ) → p * i * (l * a * (l * a)) ≡ p * (l * l) * (i * a ^ 2)
        turn p i l a = rw (pow-two a) (omega arith)
