-- A run of the accelerated method.
use Rattle.std.proofs.Common.{◌≡◌, ℕ, zero, suc, ◌<◌, ◌≤◌, [], ◌∷◌, ℤ, pos, ◌+ℤ◌, ◌-ℤ◌, ◌*ℤ◌, ◌≤ℤ◌, neg_ℤ, arith, ap, sym, ◌∙◌, refl}
use Rattle.std.proofs.lemmas.Int.{ints}
use Rattle.std.specs.Int.Signed.{≤ℤ_refl}
use Rattle.integer_algebra.specs.Sums.{total, dot, image, square, none}
use Rattle.integer_algebra.proofs.OrderLaws.{le_of_lt_z, add-le-add_z, difference_nonneg, le_by, mul_nonneg_z, square_nonneg_z, mul-le-mul_left_z, cancel-le_z}
use Rattle.integer_algebra.proofs.SumLaws.{total_same, total_add, total_scale, total_scale_right, total_nonneg, total_neg}
use Rattle.integer_algebra.proofs.RingLaws.{mul_assoc_z, mul-add_z}
use Rattle.integer_algebra.proofs.VectorLaws.{dot_comm, dot_none, dot_same, image_scale, image_total}
use Rattle.integer_algebra.proofs.Quoting.{by_ring, quotes}
use Rattle.qp_model.specs.method.Objective.{bend, twice_cost, IsUpward}
use Rattle.qp_model.specs.method.Dual.{InBox, Program, row_residual, IsConditioned, distance}
use Rattle.fast_machine.specs.Fast.{weight, weights, weighted, lagrangian, step_errors, IsFastRun, run_errors, FastRunLaw}
use Rattle.fast_machine.proofs.WeightLaws.{weight_positive, weight_nonneg, weights_nonneg, start_law}
use Rattle.fast_machine.proofs.MeanLaws.{dot_weighted, convex}
use Rattle.fast_machine.proofs.FastStepLaws.{remains, step_law}

-- ---- the multipliers
-- all multipliers of a run lie in the box
stays_in : (p : Program) (scale rest : ℕ → ℤ) (common top q : ℤ) (n : ℕ) → IsConditioned p scale rest common →
    (u y v alpha beta : ℕ → ℕ → ℤ) → IsFastRun p scale top q n u y v alpha beta →
    (w : ℕ → ℤ) → InBox p.rows top w → (k : ℕ) → k ≤ n → InBox p.rows top (y k)
stays_in p scale rest common top q n c u y v alpha beta run w b zero l = record {
  low = λ i m. at_zero (y 0 i) (run.starts i m);
  high = λ i m. below (y 0 i) (w i) (run.starts i m) (b.low i m) (b.high i m);
}
  where
    at_zero : (a : ℤ) → a ≡ pos 0 → pos 0 ≤ℤ a
    at_zero a e = omega (arith, ints)

    below : (a w : ℤ) → a ≡ pos 0 → pos 0 ≤ℤ w → w ≤ℤ top → a ≤ℤ top
    below a w e h k = omega (arith, ints)
stays_in p scale rest common top q n c u y v alpha beta run w b (suc k) l =
    remains p.rows top scale (y k) (v k) (y (suc k)) c.scale_positive
    (stays_in p scale rest common top q n c u y v alpha beta run w b k (omega arith)) (run.steps k (omega arith)).moved

-- ---- the steps, one after the other
-- one more step, at numbers alone
chained : (t0 lu a l1 lt c d0 dk dl ab e0 e1 : ℤ) → t0 ≤ℤ (lu +ℤ c *ℤ (d0 -ℤ dk) +ℤ ab *ℤ e0) → (lu +ℤ a *ℤ l1) ≤ℤ (lt +ℤ c *ℤ (dk -ℤ dl) +ℤ ab *ℤ e1) →
    (t0 +ℤ a *ℤ l1) ≤ℤ (lt +ℤ c *ℤ (d0 -ℤ dl) +ℤ ab *ℤ (e0 +ℤ e1))
chained t0 lu a l1 lt c d0 dk dl ab e0 e1 h k = le_by (add-le-add_z h k)
    (by_ring (t0 ∷ lu ∷ a ∷ l1 ∷ lt ∷ c ∷ d0 ∷ dk ∷ dl ∷ ab ∷ e0 ∷ e1 ∷ []) (search quotes depth 60 fits 20000) refl)

-- the first k steps, for every plan t
so_far : (p : Program) (scale rest : ℕ → ℤ) (common top q : ℤ) (n : ℕ) → IsConditioned p scale rest common →
    (u y v alpha beta : ℕ → ℕ → ℤ) → IsFastRun p scale top q n u y v alpha beta →
    (w : ℕ → ℤ) → InBox p.rows top w → (k : ℕ) → k ≤ n → (t : ℕ → ℤ) →
    total k (λ i. weight i *ℤ lagrangian p q (pos 1) (u i) w) ≤ℤ
    (lagrangian p q (weights k) t (weighted k (λ j. y (suc j))) +ℤ
    pos 2 *ℤ p.cost_denominator *ℤ p.row_denominator *ℤ p.rho *ℤ (distance p.rows scale w (y 0) -ℤ distance p.rows scale w (y k)) +ℤ
    p.cost_denominator *ℤ p.row_denominator *ℤ run_errors p top k alpha beta)
so_far p scale rest common top q n c u y v alpha beta run w b zero l t =
    numbers (p.row_denominator *ℤ p.rho) (twice_cost p.cost q t) (pos 2 *ℤ p.cost_denominator *ℤ p.rho)
    (pos 2 *ℤ p.cost_denominator *ℤ p.row_denominator *ℤ p.rho) (distance p.rows scale w (y 0)) (p.cost_denominator *ℤ p.row_denominator)
    (dot_comm p.rows none (row_residual p q t) ∙ dot_none p.rows (row_residual p q t))
  where
    numbers : (b v s c d e : ℤ) {x : ℤ} → x ≡ pos 0 → pos 0 ≤ℤ (b *ℤ pos 0 *ℤ v +ℤ s *ℤ x +ℤ c *ℤ (d -ℤ d) +ℤ e *ℤ pos 0)
    numbers b v s c d e f = rw f (le_by (≤ℤ_refl (pos 0)) (by_ring (b ∷ v ∷ s ∷ c ∷ d ∷ e ∷ []) (search quotes depth 60 fits 20000) refl))
so_far p scale rest common top q n c u y v alpha beta run w b (suc k) l t =
    chained (total k (λ i. weight i *ℤ lagrangian p q (pos 1) (u i) w)) (lagrangian p q (weights k) (u k) (weighted k (λ j. y (suc j))))
    (weight k) (lagrangian p q (pos 1) (u k) w) (lagrangian p q (weights (suc k)) t (weighted (suc k) (λ j. y (suc j))))
    (pos 2 *ℤ p.cost_denominator *ℤ p.row_denominator *ℤ p.rho)
    (distance p.rows scale w (y 0)) (distance p.rows scale w (y k)) (distance p.rows scale w (y (suc k)))
    (p.cost_denominator *ℤ p.row_denominator) (run_errors p top k alpha beta)
    (step_errors p top (weight k) (weights k) (alpha k) (beta k))
    (so_far p scale rest common top q n c u y v alpha beta run w b k (omega arith) (u k))
    (step_law p scale rest common top q (weight k) (weights k) c (weight_positive k) (weights_nonneg k) (start_law k)
    (u k) (weighted k (λ j. y (suc j))) (y k) (v k) (y (suc k)) (alpha k) (beta k)
    (stays_in p scale rest common top q n c u y v alpha beta run w b k (omega arith)) (run.steps k (omega arith)) w b t)

-- ---- the end
-- the sums of the costs and of the rows
parted : (n : ℕ) (a x y : ℕ → ℤ) (b c : ℤ) →
    total n (λ k. a k *ℤ (b *ℤ pos 1 *ℤ x k +ℤ c *ℤ y k)) ≡ b *ℤ total n (λ k. a k *ℤ x k) +ℤ c *ℤ total n (λ k. a k *ℤ y k)
parted n a x y b c = total_same n _ (λ k. b *ℤ (a k *ℤ x k) +ℤ c *ℤ (a k *ℤ y k)) (λ k l. apart (a k) (x k) (y k)) ∙ simp (total_add, total_scale)
  where
    apart : (a x y : ℤ) → a *ℤ (b *ℤ pos 1 *ℤ x +ℤ c *ℤ y) ≡ b *ℤ (a *ℤ x) +ℤ c *ℤ (a *ℤ y)
    apart a x y = by_ring (a ∷ x ∷ y ∷ b ∷ c ∷ []) (search quotes depth 60 fits 20000) refl

-- the rows at the average
affine_weighted : (columns n : ℕ) (m : ℕ → ℕ → ℤ) (q o : ℤ) (a : ℕ → ℤ) (u : ℕ → ℕ → ℤ) (i : ℕ) →
    total n (λ k. a k *ℤ (image columns m (u k) i +ℤ q *ℤ o)) ≡ image columns m (λ j. total n (λ k. a k *ℤ u k j)) i +ℤ total n a *ℤ q *ℤ o
affine_weighted columns n m q o a u i =
    total_same n _ _ (λ k l. mul-add_z (a k) (image columns m (u k) i) (q *ℤ o)) ∙
    total_add n (λ k. a k *ℤ image columns m (u k) i) (λ k. a k *ℤ (q *ℤ o)) ∙
    joined (total n a) _ _ (total_same n _ _ (λ k l. sym (image_scale columns m (a k) (u k) i)) ∙ image_total columns n m (λ k j. a k *ℤ u k j) i)
    (total_scale_right n (q *ℤ o) a) (sym (mul_assoc_z (total n a) q o))
  where
    joined : (w y z : ℤ) {f g e : ℤ} → f ≡ y → g ≡ e → e ≡ z → f +ℤ g ≡ y +ℤ z
    joined w y z h k l = omega (arith, ints)

rows_at_average : (p : Program) (q : ℤ) (n : ℕ) (u : ℕ → ℕ → ℤ) (w : ℕ → ℤ) →
    total n (λ k. weight k *ℤ dot p.rows w (row_residual p q (u k))) ≡ dot p.rows w (row_residual p (weights n *ℤ q) (weighted n u))
rows_at_average p q n u w =
    dot_weighted p.rows n weight w (λ k. row_residual p q (u k)) ∙
    dot_same p.rows w _ _ (λ i l. affine_weighted p.cost.entries n p.matrix q (p.offset i) weight u i)

-- the distance from the start
from_zero : (n : ℕ) (s w y : ℕ → ℤ) → ((i : ℕ) → i < n → y i ≡ pos 0) → distance n s w y ≡ total n (λ i. s i *ℤ square (w i))
from_zero n s w y h = total_same n _ _ (λ i l. ap (λ (z : ℤ). s i *ℤ square z) (less_zero (w i) (y i) (h i l)))
  where
    less_zero : (a b : ℤ) → b ≡ pos 0 → a -ℤ b ≡ a
    less_zero a b e = omega (arith, ints, e)

-- multipliers that are not negative, against rows that are not broken
held : (n : ℕ) (s c : ℕ → ℤ) → ((i : ℕ) → i < n → pos 0 ≤ℤ s i) → ((i : ℕ) → i < n → c i ≤ℤ pos 0) → dot n s c ≤ℤ pos 0
held n s c h k = turned (dot n s c) (simp total_neg at (total_nonneg n (λ i. neg_ℤ (s i *ℤ c i))
    (λ i l. le_by (mul_nonneg_z (s i) (pos 0 -ℤ c i) (h i l) (difference_nonneg (k i l))) (turn (s i) (c i)))))
  where
    turn : (a b : ℤ) → neg_ℤ (a *ℤ b) +ℤ pos 0 ≡ pos 0 +ℤ a *ℤ (pos 0 -ℤ b)
    turn a b = by_ring (a ∷ b ∷ []) (search quotes depth 60 fits 20000) refl

    turned : (a : ℤ) → pos 0 ≤ℤ neg_ℤ a → a ≤ℤ pos 0
    turned a h = omega (arith, ints)

-- a step bends the cost up, since its squares do
upward : (p : Program) (rest : ℕ → ℤ) (common : ℤ) (scale : ℕ → ℤ) → IsConditioned p scale rest common → IsUpward p.cost
upward p rest common scale k d =
    cancel-le_z p.rho_denominator (pos 0) (bend p.cost d) k.rho_denominator
    (le_by (add-le-add_z (k.strong d) (mul_nonneg_z (pos 2 *ℤ (p.rho *ℤ p.cost_denominator)) (total p.cost.entries (λ j. square (d j)))
    (mul_nonneg_z (pos 2) (p.rho *ℤ p.cost_denominator) (omega (arith, ints)) (mul_nonneg_z p.rho p.cost_denominator (le_of_lt_z k.rho) (le_of_lt_z k.cost_denominator)))
    (total_nonneg p.cost.entries _ (λ j l. square_nonneg_z (d j)))))
    (turn p.rho_denominator (bend p.cost d) p.rho p.cost_denominator (total p.cost.entries (λ j. square (d j)))))
  where
    turn : (s b r c d : ℤ) → s *ℤ b +ℤ (pos 2 *ℤ r *ℤ c *ℤ d +ℤ pos 0) ≡ s *ℤ pos 0 +ℤ (s *ℤ b +ℤ pos 2 *ℤ (r *ℤ c) *ℤ d)
    turn s b r c d = by_ring (s ∷ b ∷ r ∷ c ∷ d ∷ []) (search quotes depth 60 fits 20000) refl

-- the bound, at numbers alone: n are the weights of all steps
finished : (a b r n average costs rows vt sums start end errors : ℤ) → pos 0 ≤ℤ a → pos 0 ≤ℤ b → pos 0 ≤ℤ r → pos 0 ≤ℤ n → pos 0 ≤ℤ end →
    average ≤ℤ (n *ℤ costs) → sums ≤ℤ pos 0 →
    (b *ℤ r *ℤ costs +ℤ pos 2 *ℤ a *ℤ r *ℤ rows) ≤ℤ
    (b *ℤ r *ℤ n *ℤ vt +ℤ pos 2 *ℤ a *ℤ r *ℤ sums +ℤ pos 2 *ℤ a *ℤ b *ℤ r *ℤ (start -ℤ end) +ℤ a *ℤ b *ℤ errors) →
    (b *ℤ r *ℤ average +ℤ pos 2 *ℤ a *ℤ r *ℤ n *ℤ rows) ≤ℤ
    (b *ℤ r *ℤ square n *ℤ vt +ℤ pos 2 *ℤ a *ℤ b *ℤ r *ℤ n *ℤ start +ℤ a *ℤ b *ℤ n *ℤ errors)
finished a b r n average costs rows vt sums start end errors pa pb pr pn pe h k l =
    le_by (add-le-add_z (mul-le-mul_left_z (b *ℤ r) br h)
    (add-le-add_z (mul-le-mul_left_z n pn l)
    (add-le-add_z (mul-le-mul_left_z (pos 2 *ℤ (a *ℤ r *ℤ n)) (double (mul_nonneg_z (a *ℤ r) n (mul_nonneg_z a r pa pr) pn)) k)
    (mul_nonneg_z (pos 2 *ℤ (a *ℤ (b *ℤ r) *ℤ n)) end (double (mul_nonneg_z (a *ℤ (b *ℤ r)) n (mul_nonneg_z a (b *ℤ r) pa br) pn)) pe))))
    (by_ring (a ∷ b ∷ r ∷ n ∷ average ∷ costs ∷ rows ∷ vt ∷ sums ∷ start ∷ end ∷ errors ∷ []) (search quotes depth 60 fits 20000) refl)
  where
    br : pos 0 ≤ℤ (b *ℤ r)
    br = mul_nonneg_z b r pb pr

    double : {x : ℤ} → pos 0 ≤ℤ x → pos 0 ≤ℤ (pos 2 *ℤ x)
    double {x} h = mul_nonneg_z (pos 2) x (omega (arith, ints)) h

pub run_law : FastRunLaw
run_law p scale rest common top q n c u y v alpha beta run w b t ft =
    finished p.cost_denominator p.row_denominator p.rho (weights n) (twice_cost p.cost (weights n *ℤ q) (weighted n u)) (total n (λ k. weight k *ℤ twice_cost p.cost q (u k)))
    (dot p.rows w (row_residual p (weights n *ℤ q) (weighted n u))) (twice_cost p.cost q t)
    (dot p.rows (weighted n (λ j. y (suc j))) (row_residual p q t)) (total p.rows (λ i. scale i *ℤ square (w i)))
    (distance p.rows scale w (y n)) (run_errors p top n alpha beta)
    (le_of_lt_z c.cost_denominator) (le_of_lt_z c.row_denominator) (le_of_lt_z c.rho) (weights_nonneg n)
    (total_nonneg p.rows _ (λ i l. mul_nonneg_z (scale i) (square (w i -ℤ y n i)) (le_of_lt_z (c.scale_positive i l)) (square_nonneg_z (w i -ℤ y n i))))
    (convex p.cost q c.symmetric (upward p rest common scale c) n weight (λ k l. weight_nonneg k) u)
    (held p.rows (weighted n (λ j. y (suc j))) (row_residual p q t) (λ i l. total_nonneg n _
    (λ k m. mul_nonneg_z (weight k) (y (suc k) i) (weight_nonneg k)
    ((stays_in p scale rest common top q n c u y v alpha beta run w b (suc k) (omega arith)).low i l))) ft)
    (rw (
      ← (rows_at_average p q n u w),
      ← (from_zero p.rows scale w (y 0) run.starts),
      ← (parted n weight (λ k. twice_cost p.cost q (u k)) (λ k. dot p.rows w (row_residual p q (u k))) (p.row_denominator *ℤ p.rho) (pos 2 *ℤ p.cost_denominator *ℤ p.rho)),
    )
    (so_far p scale rest common top q n c u y v alpha beta run w b n (omega arith) t))
