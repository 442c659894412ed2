-- A step of the accelerated machine is an inexact step of the accelerated method.
use Rattle.std.proofs.Common.{◌≡◌, inl, inr, ℕ, zero, suc, ◌+◌, ◌-◌, ◌*◌, ◌^◌, ◌<◌, ◌≤◌, [], ◌∷◌, ℤ, pos, ◌+ℤ◌, ◌-ℤ◌, ◌*ℤ◌, ◌≤ℤ◌, ◌<ℤ◌, neg_ℤ, List, length, arith, ap, sym, ◌∙◌, refl}
use Rattle.std.specs.Prelude.{All}
use Rattle.std.specs.Int.{int_max, int_min}
use Rattle.std.proofs.lemmas.Int.{ints, clamps}
use Rattle.std.proofs.lemmas.Nat.{pow-add}
use Rattle.std.proofs.lemmas.List.Elements.{All-get_or}
use Rattle.std.proofs.Math.Nat.{mul_comm, mul-div_cancel}
use Rattle.integer_algebra.specs.Sums.{at, total, coimage}
use Rattle.integer_algebra.specs.Bounds.{absolute, IsWithin, clamped}
use Rattle.integer_algebra.specs.Division.{floor_of}
use Rattle.integer_algebra.proofs.OrderLaws.{le_by, le_of_lt_z, mul-le-mul_left_z, mul_nonneg_z}
use Rattle.integer_algebra.proofs.SumLaws.{total_same, total_add, total_scale}
use Rattle.integer_algebra.proofs.BoundLaws.{clamped_cases, clamped_low, clamped_high, within_total, within_sum, within_times, within_more}
use Rattle.integer_algebra.proofs.DivisionLaws.{floor_of_is}
use Rattle.integer_algebra.proofs.PowerLaws.{pow_positive}
use Rattle.integer_algebra.proofs.Quoting.{by_ring, quotes}
use Rattle.qp_model.specs.method.Objective.{gradient}
use Rattle.qp_model.specs.method.Dual.{Program, row_residual}
use Rattle.qp_model.specs.machine.Controller.{Numbers}
use Rattle.qp_model.specs.machine.Machine.{loaded, exponent_of, lowering_of, row_sum}
use Rattle.qp_model.proofs.MagnitudeLaws.{zeros_at}
use Rattle.fast_machine.specs.Fast.{weight, weights, weighted}
use Rattle.overflow_check.specs.FastMachine.{step_weight, all_weights, mean_divisor, fast_top, mean_at, moved_multipliers, fast_after}
use Rattle.fast_machine.specs.FastErrors.{fast_scale, made_after, fast_plan_over, fast_means_over, fast_residuals_over, fast_multipliers_over, step_scale, mean_misses, FastMachineStepLaw}
use Rattle.fast_machine.proofs.WeightSums.{more_weights, divisor_twice}
use Rattle.fast_machine.proofs.FastRuns.{top_low, mean_item, moved_item, moved_long, added_item}

-- ---- bounds
-- times a number that is not negative
times_within : (k b x : ℤ) → pos 0 ≤ℤ k → IsWithin b x → IsWithin (k *ℤ b) (k *ℤ x)
times_within k b x p h = record { below = mul-le-mul_left_z k p h.below; above = under k b x (mul-le-mul_left_z k p h.above) }
  where
    under : (k b x : ℤ) → (k *ℤ neg_ℤ b) ≤ℤ (k *ℤ x) → neg_ℤ (k *ℤ b) ≤ℤ (k *ℤ x)
    under k b x h = le_by h (by_ring (k ∷ b ∷ x ∷ []) (search quotes depth 60 fits 20000) refl)

-- ---- weights
pub weight_is : (k : ℕ) → weight k ≡ pos (step_weight k)
weight_is k = ap pos (let e : suc (suc k) ≡ k + 2 = omega arith in e)

no_weights : weights 0 ≡ pos (all_weights 0)
unfolding all_weights
no_weights = refl

pub weights_are : (k : ℕ) → weights k ≡ pos (all_weights k)
weights_are zero = no_weights
weights_are (suc k) = omega (arith, ints, weights_are k, more_weights k)

with_weight : (k : ℕ) → weights k +ℤ weight k ≡ pos (all_weights (suc k))
with_weight k = weights_are (suc k)

-- ---- what a step makes
mean_after : (c : Numbers) (state : List ℤ) (k i : ℕ) → i < length c.bounds →
    at (fast_after c state (suc k)).means i ≡ mean_at k (fast_after c state k).multipliers (fast_after c state k).reached i *ℤ pos (2 ^ lowering_of c i)
unfolding fast_after
mean_after c state k i lt = mean_item c k (fast_after c state k).multipliers (fast_after c state k).reached i lt

multiplier_after : (c : Numbers) (state : List ℤ) (k i : ℕ) → i < length c.bounds → at (fast_after c state (suc k)).multipliers i ≡
    int_min (fast_top c i) (int_max (at (fast_after c state k).multipliers i +ℤ pos (step_weight k) *ℤ floor_of (row_sum c state (fast_after c state (suc k)).plan i) (2 ^ c.fraction_bits)) (pos 0))
unfolding fast_after
multiplier_after c state k i lt = moved_item c state (fast_after c state (suc k)).plan (step_weight k) (fast_after c state k).multipliers i lt

reached_after : (c : Numbers) (state : List ℤ) (k i : ℕ) → i < length c.bounds →
    at (fast_after c state (suc k)).reached i ≡ at (fast_after c state k).reached i +ℤ pos (step_weight k) *ℤ at (fast_after c state (suc k)).multipliers i
unfolding fast_after
reached_after c state k i lt =
    let made = fast_after c state k in
    let moved = moved_multipliers c state (fast_after c state (suc k)).plan (step_weight k) made.multipliers in
    added_item (step_weight k) made.reached moved i (omega (arith, lt, moved_long c state (fast_after c state (suc k)).plan (step_weight k) made.multipliers))

reached_first : (c : Numbers) (state : List ℤ) (i : ℕ) → at (fast_after c state 0).reached i ≡ pos 0
unfolding fast_after
reached_first c state i = zeros_at (length c.bounds) i

pub multiplier_first : (c : Numbers) (state : List ℤ) (i : ℕ) → at (fast_after c state 0).multipliers i ≡ pos 0
unfolding fast_after
multiplier_first c state i = zeros_at (length c.bounds) i

-- sums over another denominator
pub nothing_times : (g : ℤ) → g *ℤ pos 0 ≡ pos 0
nothing_times g = by_ring (g ∷ []) (search quotes depth 60 fits 20000) refl

pub one_more_term : (g a s v : ℤ) {w t : ℤ} → w ≡ g *ℤ s → t ≡ s +ℤ a *ℤ v → w +ℤ a *ℤ (g *ℤ v) ≡ g *ℤ t
one_more_term g a s v {w} {t} e h = rw (e, h) (by_ring (g ∷ a ∷ s ∷ v ∷ []) (search quotes depth 60 fits 20000) refl)

-- the multipliers reached, summed by the weights
reached_is : (c : Numbers) (xi : List ℤ) (b : ℤ) (k i : ℕ) → i < length c.bounds →
    weighted k (λ j. fast_multipliers_over c xi b (suc j)) i ≡ b *ℤ pos (2 ^ lowering_of c i) *ℤ at (made_after c xi k).reached i
reached_is c xi b zero i lt =
    sym (ap (λ (z : ℤ). b *ℤ pos (2 ^ lowering_of c i) *ℤ z) (reached_first c (loaded c xi) i) ∙ nothing_times (b *ℤ pos (2 ^ lowering_of c i)))
reached_is c xi b (suc k) i lt =
    one_more_term (b *ℤ pos (2 ^ lowering_of c i)) (weight k) (at (made_after c xi k).reached i) (at (made_after c xi (suc k)).multipliers i) (reached_is c xi b k i lt)
    (reached_after c (loaded c xi) k i lt ∙ ap (λ (a : ℤ). at (made_after c xi k).reached i +ℤ a *ℤ at (made_after c xi (suc k)).multipliers i) (sym (weight_is k)))

-- ---- means
-- a mean, times what it is divided by, misses less than that
mean_near : (g z w n a : ℤ) → pos 0 ≤ℤ g → pos 0 ≤ℤ a → n ≡ pos 2 *ℤ a → (w *ℤ n) ≤ℤ z → z <ℤ ((w +ℤ pos 1) *ℤ n) →
    IsWithin (a *ℤ (pos 2 *ℤ g)) (g *ℤ z -ℤ a *ℤ (pos 2 *ℤ (g *ℤ w)))
mean_near g z w n a pg pa e low high = record {
  below = le_by (mul-le-mul_left_z g pg (le_of_lt_z high)) (rw e (by_ring (g ∷ z ∷ w ∷ a ∷ []) (search quotes depth 60 fits 20000) refl));
  above = beyond (a *ℤ (pos 2 *ℤ g)) (g *ℤ z -ℤ a *ℤ (pos 2 *ℤ (g *ℤ w))) (mul_nonneg_z a (pos 2 *ℤ g) pa (mul_nonneg_z (pos 2) g (omega (arith, ints)) pg))
      (le_by (mul-le-mul_left_z g pg low) (rw e (by_ring (g ∷ z ∷ w ∷ a ∷ []) (search quotes depth 60 fits 20000) refl)));
}
  where
    beyond : (x y : ℤ) → pos 0 ≤ℤ x → pos 0 ≤ℤ y → neg_ℤ x ≤ℤ y
    beyond x y h l = omega (arith, ints, h, l)

-- what is summed of row i, and the mean as it is rounded, over the denominator
abbrev exact_mean : Numbers → List ℤ → ℤ → ℕ → ℕ → ℤ
exact_mean c xi b k i = weighted k (λ j. fast_multipliers_over c xi b (suc j)) i +ℤ weight k *ℤ fast_multipliers_over c xi b k i

mean_misses_at : (c : Numbers) (xi : List ℤ) (b : ℤ) (k i : ℕ) → pos 0 ≤ℤ b → i < length c.bounds →
    IsWithin ((weights k +ℤ weight k) *ℤ (pos 2 *ℤ (b *ℤ pos (2 ^ lowering_of c i)))) (exact_mean c xi b k i -ℤ (weights k +ℤ weight k) *ℤ fast_means_over c xi b k i)
mean_misses_at c xi b k i pb lt =
    let g = b *ℤ pos (2 ^ lowering_of c i) in
    let v = at (made_after c xi k).multipliers i in
    let s = at (made_after c xi k).reached i in
    let z = s +ℤ pos (step_weight k) *ℤ v in
    let w = floor_of z (mean_divisor k) in
    let a = pos (all_weights (suc k)) in
    let floor = floor_of_is z (mean_divisor k) (omega (arith, divisor_twice k, more_weights k)) in
    rw (with_weight k)
    (placed g s v w b (pos (2 ^ lowering_of c i)) (pos (step_weight k)) a refl (reached_is c xi b k i lt) (weight_is k) (mean_after c (loaded c xi) k i lt)
    (mean_near g z w (pos (mean_divisor k)) a (mul_nonneg_z b (pos (2 ^ lowering_of c i)) pb (omega (arith, ints))) (omega (arith, ints)) (ap pos (divisor_twice k)) floor.least floor.greatest))
  where
    placed : (g s v w b l a d : ℤ) {x y m : ℤ} → g ≡ b *ℤ l → x ≡ g *ℤ s → y ≡ a → m ≡ w *ℤ l →
        IsWithin (d *ℤ (pos 2 *ℤ g)) (g *ℤ (s +ℤ a *ℤ v) -ℤ d *ℤ (pos 2 *ℤ (g *ℤ w))) →
        IsWithin (d *ℤ (pos 2 *ℤ g)) (x +ℤ y *ℤ (g *ℤ v) -ℤ d *ℤ (pos 2 *ℤ b *ℤ m))
    placed g s v w b l a d {x} {y} {m} e f h i n =
        let same : g *ℤ (s +ℤ a *ℤ v) -ℤ d *ℤ (pos 2 *ℤ (g *ℤ w)) ≡ x +ℤ y *ℤ (g *ℤ v) -ℤ d *ℤ (pos 2 *ℤ b *ℤ m) =
        rw (f, h, i, e) (by_ring (s ∷ v ∷ w ∷ b ∷ l ∷ a ∷ d ∷ []) (search quotes depth 60 fits 20000) refl) in
        rw (← same) n

-- ---- the gradient
-- a coimage by means that are rounded
coimage_near : (p : Program) (e y : ℕ → ℤ) (a : ℤ) (miss : ℕ → ℤ) (j : ℕ) → ((i : ℕ) → i < p.rows → IsWithin (a *ℤ miss i) (e i -ℤ a *ℤ y i)) →
    IsWithin (a *ℤ total p.rows (λ i. miss i *ℤ absolute (p.matrix i j))) (coimage p.rows p.matrix e j -ℤ a *ℤ coimage p.rows p.matrix y j)
coimage_near p e y a miss j near =
    rw (← total_scale p.rows a (λ i. miss i *ℤ absolute (p.matrix i j)), ← summed)
    (within_total p.rows (λ i. a *ℤ (miss i *ℤ absolute (p.matrix i j))) (λ i. (e i -ℤ a *ℤ y i) *ℤ p.matrix i j)
    (λ i l. each a (miss i) (absolute (p.matrix i j)) ((e i -ℤ a *ℤ y i) *ℤ p.matrix i j) (within_times (a *ℤ miss i) (e i -ℤ a *ℤ y i) (p.matrix i j) (near i l))))
  where
    each : (a m x z : ℤ) → IsWithin (a *ℤ m *ℤ x) z → IsWithin (a *ℤ (m *ℤ x)) z
    each a m x z h = let e : a *ℤ (m *ℤ x) ≡ a *ℤ m *ℤ x = by_ring (a ∷ m ∷ x ∷ []) (search quotes depth 60 fits 20000) refl in rw e h

    terms : (i : ℕ) → p.matrix i j *ℤ e i ≡ a *ℤ (p.matrix i j *ℤ y i) +ℤ (e i -ℤ a *ℤ y i) *ℤ p.matrix i j
    terms i = by_ring (p.matrix i j ∷ e i ∷ y i ∷ a ∷ []) (search quotes depth 60 fits 20000) refl

    rest : (x y z : ℤ) → x ≡ y +ℤ z → z ≡ x -ℤ y
    rest x y z h = omega (arith, ints, h)

    summed : total p.rows (λ i. (e i -ℤ a *ℤ y i) *ℤ p.matrix i j) ≡ coimage p.rows p.matrix e j -ℤ a *ℤ coimage p.rows p.matrix y j
    summed = rest (coimage p.rows p.matrix e j) (a *ℤ coimage p.rows p.matrix y j) (total p.rows (λ i. (e i -ℤ a *ℤ y i) *ℤ p.matrix i j))
        (total_same p.rows (λ i. p.matrix i j *ℤ e i) (λ i. a *ℤ (p.matrix i j *ℤ y i) +ℤ (e i -ℤ a *ℤ y i) *ℤ p.matrix i j) (λ i l. terms i)
        ∙ total_add p.rows (λ i. a *ℤ (p.matrix i j *ℤ y i)) (λ i. (e i -ℤ a *ℤ y i) *ℤ p.matrix i j)
        ∙ ap (λ (z : ℤ). z +ℤ total p.rows (λ i. (e i -ℤ a *ℤ y i) *ℤ p.matrix i j)) (total_scale p.rows a (λ i. p.matrix i j *ℤ y i)))

-- the gradient with the exact means, times all weights so far
gradient_near : (c r a near alpha miss g x e : ℤ) → pos 0 ≤ℤ c → pos 0 ≤ℤ a → IsWithin (c *ℤ r *ℤ near) (r *ℤ g +ℤ c *ℤ x) → IsWithin (a *ℤ miss) (e -ℤ a *ℤ x) →
    (r *ℤ near +ℤ miss) ≤ℤ (r *ℤ alpha) → IsWithin (a *ℤ (c *ℤ r) *ℤ alpha) (a *ℤ r *ℤ g +ℤ c *ℤ e)
gradient_near c r a near alpha miss g x e pc pa h k l =
    within_more (a *ℤ (c *ℤ r *ℤ near) +ℤ c *ℤ (a *ℤ miss)) (a *ℤ (c *ℤ r) *ℤ alpha) (a *ℤ r *ℤ g +ℤ c *ℤ e)
    (rw (← split) (within_sum (a *ℤ (c *ℤ r *ℤ near)) (c *ℤ (a *ℤ miss)) (a *ℤ (r *ℤ g +ℤ c *ℤ x)) (c *ℤ (e -ℤ a *ℤ x)) (times_within a (c *ℤ r *ℤ near) (r *ℤ g +ℤ c *ℤ x) pa h) (times_within c (a *ℤ miss) (e -ℤ a *ℤ x) pc k)))
    (le_by (mul-le-mul_left_z (a *ℤ c) (mul_nonneg_z a c pa pc) l) (by_ring (c ∷ r ∷ a ∷ near ∷ alpha ∷ miss ∷ []) (search quotes depth 60 fits 20000) refl))
  where
    split : a *ℤ (r *ℤ g +ℤ c *ℤ x) +ℤ c *ℤ (e -ℤ a *ℤ x) ≡ a *ℤ r *ℤ g +ℤ c *ℤ e
    split = by_ring (c ∷ r ∷ a ∷ g ∷ x ∷ e ∷ []) (search quotes depth 60 fits 20000) refl

-- ---- the move
-- both sides of a projection, times a factor
clamped_times : (g t z : ℤ) → pos 0 ≤ℤ g → pos 0 ≤ℤ t → g *ℤ int_min t (int_max z (pos 0)) ≡ clamped (g *ℤ t) (g *ℤ z)
clamped_times g t z pg pt = ap (λ (x : ℤ). g *ℤ x) (turned t z) ∙ elim (clamped_cases t z pt) [
  | inl e ↦ sym (inner (g *ℤ t) (g *ℤ z) (g *ℤ clamped t z) (ap (λ (x : ℤ). g *ℤ x) e) (mul_nonneg_z g (clamped t z) pg (clamped_low t z pt))
      (mul-le-mul_left_z g pg (clamped_high t z pt)))
  | inr s ↦ elim s [
    | inl e ↦ sym (upper (g *ℤ t) (g *ℤ z) (g *ℤ clamped t z) (ap (λ (x : ℤ). g *ℤ x) e.0) (mul_nonneg_z g t pg pt) (mul-le-mul_left_z g pg e.1))
    | inr e ↦ sym (lower (g *ℤ t) (g *ℤ z) (g *ℤ clamped t z) (ap (λ (x : ℤ). g *ℤ x) e.0 ∙ nothing_times g) (mul_nonneg_z g t pg pt)
        (le_by (mul-le-mul_left_z g pg e.1) (by_ring (g ∷ z ∷ []) (search quotes depth 60 fits 20000) refl)))
  ]
]
  where
    turned : (t z : ℤ) → int_min t (int_max z (pos 0)) ≡ clamped t z
    turned t z = omega (arith, ints, clamps)

    inner : (t z m : ℤ) → m ≡ z → pos 0 ≤ℤ m → m ≤ℤ t → clamped t z ≡ m
    inner t z m e h k = omega (arith, ints, clamps, e, h, k)

    upper : (t z m : ℤ) → m ≡ t → pos 0 ≤ℤ t → t ≤ℤ z → clamped t z ≡ m
    upper t z m e h k = omega (arith, ints, clamps, e, h, k)

    lower : (t z m : ℤ) → m ≡ pos 0 → pos 0 ≤ℤ t → z ≤ℤ pos 0 → clamped t z ≡ m
    lower t z m e h k = omega (arith, ints, clamps, e, h, k)

-- the greatest multiplier of a row, raised, is twice the clamp
top_exact : (r : ℕ) (c : Numbers) (i : ℕ) → c.clamp ≡ pos (2 * r * 2 ^ (c.fraction_bits + c.step_exponent)) → pos (2 ^ lowering_of c i) *ℤ fast_top c i ≡ pos 2 *ℤ c.clamp
top_exact r c i clamp =
    let power = 2 ^ lowering_of c i in
    let rest = 2 ^ (c.fraction_bits + c.step_exponent - lowering_of c i) in
    let split : 2 ^ (c.fraction_bits + c.step_exponent) ≡ power * rest =
    (let e : c.fraction_bits + c.step_exponent ≡ lowering_of c i + (c.fraction_bits + c.step_exponent - lowering_of c i) = omega arith in
    ap (λ (n : ℕ). 2 ^ n) e ∙ pow-add 2 (lowering_of c i) (c.fraction_bits + c.step_exponent - lowering_of c i)) in
    exact c.clamp power (2 * r) rest (pow_positive 2 (lowering_of c i) (omega arith)) split clamp
  where
    exact : (z : ℤ) (p a n : ℕ) {m : ℕ} → 0 < p → m ≡ p * n → z ≡ pos (a * m) → pos p *ℤ floor_of (pos 2 *ℤ z) p ≡ pos 2 *ℤ z
    exact z p a n h e k =
        let whole : 2 * (a * (p * n)) ≡ 2 * a * n * p = omega arith in
        rw (k, e, whole, mul-div_cancel (2 * a * n) h) (ap pos (mul_comm p (2 * a * n)))

-- the exponent of a row, and what it is below the greatest
exponents_are : (c : Numbers) (i : ℕ) → All (λ s. s ≤ c.step_exponent) c.exponents → i < length c.exponents → pos (2 ^ c.step_exponent) ≡ step_scale c i *ℤ pos (2 ^ lowering_of c i)
exponents_are c i each lt =
    let le : exponent_of c i ≤ c.step_exponent = All-get_or (λ s. s ≤ c.step_exponent) c.exponents i 0 lt each in
    let e : c.step_exponent ≡ exponent_of c i + lowering_of c i = omega (arith, le) in
    ap pos (ap (λ (n : ℕ). 2 ^ n) e ∙ pow-add 2 (exponent_of c i) (lowering_of c i))

moved_over : (e b l v t q a m y : ℤ) {s z : ℤ} → pos 0 ≤ℤ b → pos 0 ≤ℤ e → pos 0 ≤ℤ l → pos 0 ≤ℤ t → s ≡ e *ℤ l → l *ℤ t ≡ pos 2 *ℤ m → q ≡ m *ℤ (pos 2 *ℤ b) →
    z ≡ int_min t (int_max (y +ℤ a *ℤ v) (pos 0)) →
    pos 2 *ℤ e *ℤ (b *ℤ l *ℤ z) ≡ clamped (pos 2 *ℤ e *ℤ q) (pos 2 *ℤ e *ℤ (b *ℤ l *ℤ y) +ℤ a *ℤ (pos 2 *ℤ b *ℤ s *ℤ v))
moved_over e b l v t q a m y {s} {z} pb pe pl pt hs ht hq hz =
    let g = pos 2 *ℤ e *ℤ (b *ℤ l) in
    let pg = mul_nonneg_z (pos 2 *ℤ e) (b *ℤ l) (mul_nonneg_z (pos 2) e (omega (arith, ints)) pe) (mul_nonneg_z b l pb pl) in
    rw (hz, hs, hq, top, inside) (left e (b *ℤ l) (int_min t (int_max (y +ℤ a *ℤ v) (pos 0))) ∙ clamped_times g t (y +ℤ a *ℤ v) pg pt)
  where
    left : (e g z : ℤ) → pos 2 *ℤ e *ℤ (g *ℤ z) ≡ pos 2 *ℤ e *ℤ g *ℤ z
    left e g z = by_ring (e ∷ g ∷ z ∷ []) (search quotes depth 60 fits 20000) refl

    twice : (e b m : ℤ) {n : ℤ} → n ≡ pos 2 *ℤ m → pos 2 *ℤ e *ℤ (m *ℤ (pos 2 *ℤ b)) ≡ pos 2 *ℤ e *ℤ b *ℤ n
    twice e b m h = rw h (by_ring (e ∷ b ∷ m ∷ []) (search quotes depth 60 fits 20000) refl)

    top : pos 2 *ℤ e *ℤ (m *ℤ (pos 2 *ℤ b)) ≡ pos 2 *ℤ e *ℤ (b *ℤ l) *ℤ t
    top = twice e b m ht ∙ by_ring (e ∷ b ∷ l ∷ t ∷ []) (search quotes depth 60 fits 20000) refl

    inside : pos 2 *ℤ e *ℤ (b *ℤ l *ℤ y) +ℤ a *ℤ (pos 2 *ℤ b *ℤ (e *ℤ l) *ℤ v) ≡ pos 2 *ℤ e *ℤ (b *ℤ l) *ℤ (y +ℤ a *ℤ v)
    inside = by_ring (e ∷ b ∷ l ∷ y ∷ a ∷ v ∷ []) (search quotes depth 60 fits 20000) refl

-- ---- the step
pub machine_step : FastMachineStepLaw
machine_step p rest common r c xi b x run pb k near alpha beta h =
    let sized = run.controller.form.sized.rest in
    let a = weights k +ℤ weight k in
    let pa : pos 0 ≤ℤ a = rw (with_weight k) (omega (arith, ints)) in
    record {
      gradient_error = λ j l. gradient_near p.cost_denominator p.row_denominator a (near j) (alpha j) (mean_misses p c b j) (gradient p.cost (fast_scale c b) (fast_plan_over c xi b k) j)
          (coimage p.rows p.matrix (fast_means_over c xi b k) j) (coimage p.rows p.matrix (exact_mean c xi b k) j) (le_of_lt_z x.cost_denominator) pa (h.gradient_error j l)
          (coimage_near p (exact_mean c xi b k) (fast_means_over c xi b k) a (λ i. pos 2 *ℤ (b *ℤ pos (2 ^ lowering_of c i))) j (λ i m. mean_misses_at c xi b k i pb (omega (arith, run.rows, m))))
          (h.mean_error j l);
      row_error = λ i l. weighed (weight k) p.row_denominator (beta i) (fast_residuals_over c xi b k i) (row_residual p (fast_scale c b) (fast_plan_over c xi b k) i) (omega (arith, ints)) (h.row_error i l);
      moved = λ i l. (let lt : i < length c.bounds = omega (arith, run.rows, l) in
          moved_over (step_scale c i) b (pos (2 ^ lowering_of c i)) (floor_of (row_sum c (loaded c xi) (made_after c xi (suc k)).plan i) (2 ^ c.fraction_bits)) (fast_top c i)
          (pos (2 * r) *ℤ fast_scale c b) (weight k) c.clamp (at (made_after c xi k).multipliers i) pb (omega (arith, ints)) (omega (arith, ints)) (top_low c i sized.clamp_low)
          (exponents_are c i sized.exponents (omega (arith, lt, sized.shaped.exponents, sized.shaped.bounds))) (top_exact r c i run.clamp) (scaled_top r c b run.clamp)
          (multiplier_after c (loaded c xi) k i lt ∙ ap (λ (z : ℤ). int_min (fast_top c i) (int_max (at (made_after c xi k).multipliers i +ℤ z *ℤ
          floor_of (row_sum c (loaded c xi) (made_after c xi (suc k)).plan i) (2 ^ c.fraction_bits)) (pos 0))) (sym (weight_is k))));
    }
  where
    weighed : (a r b v z : ℤ) → pos 0 ≤ℤ a → IsWithin (r *ℤ b) (r *ℤ v -ℤ z) → IsWithin (r *ℤ a *ℤ b) (r *ℤ (a *ℤ v) -ℤ a *ℤ z)
    weighed a r b v z pa h =
        let bound : a *ℤ (r *ℤ b) ≡ r *ℤ a *ℤ b = by_ring (a ∷ r ∷ b ∷ []) (search quotes depth 60 fits 20000) refl in
        let number : a *ℤ (r *ℤ v -ℤ z) ≡ r *ℤ (a *ℤ v) -ℤ a *ℤ z = by_ring (a ∷ r ∷ v ∷ z ∷ []) (search quotes depth 60 fits 20000) refl in
        rw (← bound, ← number) (times_within a (r *ℤ b) (r *ℤ v -ℤ z) pa h)

    scaled_top : (r : ℕ) (c : Numbers) (b : ℤ) → c.clamp ≡ pos (2 * r * 2 ^ (c.fraction_bits + c.step_exponent)) → pos (2 * r) *ℤ fast_scale c b ≡ c.clamp *ℤ (pos 2 *ℤ b)
    scaled_top r c b h = placed (pos (2 * r)) (pos (2 ^ (c.fraction_bits + c.step_exponent))) b h
      where
        placed : (y q b : ℤ) {m : ℤ} → m ≡ y *ℤ q → y *ℤ (pos 2 *ℤ b *ℤ q) ≡ m *ℤ (pos 2 *ℤ b)
        placed y q b h = rw h (by_ring (y ∷ q ∷ b ∷ []) (search quotes depth 60 fits 20000) refl)
