-- How the cost of a design bends: its expansion along a step, its curvature, and averages of plans.
use Rattle.std.proofs.Common.{◌≡◌, ℕ, zero, suc, ◌+◌, ◌*◌, ◌^◌, ◌<◌, [], ◌∷◌, ℤ, pos, ◌+ℤ◌, ◌-ℤ◌, ◌*ℤ◌, ◌≤ℤ◌, ◌<ℤ◌, neg_ℤ, arith, ap, sym, ◌∙◌, refl}
use Rattle.std.proofs.lemmas.Int.{ints}
use Rattle.std.proofs.Math.IntN.{*ℤ-zero}
use Rattle.integer_algebra.specs.Sums.{total, dot, image, square, none}
use Rattle.qp_model.specs.method.Objective.{Objective, bend, twice_cost, gradient, IsUpward}
use Rattle.qp_model.proofs.ObjectiveLaws.{expands, convex}
use Rattle.qp_model.specs.problem.Design.{Design, CostRow, entries}
use Rattle.qp_model.specs.problem.Sound.{IsSound}
use Rattle.qp_model.specs.problem.Trajectory.{trajectory, lift}
use Rattle.qp_model.specs.problem.Cost.{cost, cost_term, cost_scale}
use Rattle.qp_model.specs.form.Condensed.{Condensed, IsCondensed, slope_at, gradient_at}
use Rattle.qp_model.specs.form.Condensing.{condensed_of}
use Rattle.qp_model.specs.form.Curvature.{untargeted, curvature}
use Rattle.qp_model.specs.problem.CostShape.{ExpansionLaw, HessianLaw, CurvatureLaw, AverageLaw}
use Rattle.qp_model.proofs.CostLaws.{condensing}
use Rattle.qp_model.proofs.ScalingLaws.{cost_scaled}
use Rattle.integer_algebra.proofs.OrderLaws.{pos_positive, add-le-add_z, difference_nonneg, le_by, mul_nonneg_z, square_nonneg_z, mul-le-mul_left_z, cancel-le_z}
use Rattle.integer_algebra.proofs.RingLaws.{mul_assoc_z}
use Rattle.integer_algebra.proofs.SumLaws.{total_same, total_zero, total_add, total_neg, total_scale, total_mono, total_nonneg}
use Rattle.integer_algebra.proofs.VectorLaws.{dot_comm, dot_same, dot_neg_right, image_none, matrix_scale, quadratic_scale, image_neg, quadratic_neg}
use Rattle.integer_algebra.proofs.PowerLaws.{pow-two}
use Rattle.integer_algebra.proofs.Quoting.{by_ring, quotes}
use Rattle.integer_algebra.proofs.BlockLaws.{total_blocks}

-- a trajectory from 0 turns with its plan
turned : (d : Design) (v : ℕ → ℤ) (k i : ℕ) → trajectory d (pos 1) none (λ j. neg_ℤ (v j)) k i ≡ neg_ℤ (trajectory d (pos 1) none v k i)
turned d v zero i = refl
turned d v (suc k) i = closed (pos (2 ^ d.grid * d.plant_denominator ^ k)) _ _
    (total_same d.states _ _ (λ j l. ap (λ (z : ℤ). d.plant_a i j *ℤ z) (turned d v k j)) ∙ image_neg d.states d.plant_a (trajectory d (pos 1) none v k) i)
    (image_neg d.inputs d.plant_b (λ l. v (k * d.inputs + l)) i)
  where
    closed : (a m n : ℤ) {p r : ℤ} → p ≡ neg_ℤ m → r ≡ neg_ℤ n → p +ℤ a *ℤ r ≡ neg_ℤ (m +ℤ a *ℤ n)
    closed a m n e k = rw (e, k) (by_ring (a ∷ m ∷ n ∷ []) (search quotes depth 60 fits 20000) refl)

resting : (d : Design) (k i : ℕ) → trajectory d (pos 1) none none k i ≡ pos 0
resting d zero i = refl
resting d (suc k) i = closed (pos (2 ^ d.grid * d.plant_denominator ^ k)) _ _
    (total_same d.states _ _ (λ j l. ap (λ (z : ℤ). d.plant_a i j *ℤ z) (resting d k j)) ∙ image_none d.states d.plant_a i)
    (image_none d.inputs d.plant_b i)
  where
    closed : (a p r : ℤ) → p ≡ pos 0 → r ≡ pos 0 → p +ℤ a *ℤ r ≡ pos 0
    closed a p r e k = rw (e, k) (by_ring (a ∷ []) (search quotes depth 60 fits 20000) refl)

-- two numbers add up to twice two others; a record, so that antt finds the four
record AddsUp (a b c e : ℤ) : Type 0 where
  both : a +ℤ b ≡ pos 2 *ℤ c +ℤ pos 2 *ℤ e

-- one cost row at a plan, at its negation, at none, and with the target 0
term_both : (d : Design) (v : ℕ → ℤ) (k : ℕ) (r : CostRow) →
    AddsUp (cost_term d (pos 1) none v k r) (cost_term d (pos 1) none (λ j. neg_ℤ (v j)) k r) (cost_term d (pos 1) none none k r) (cost_term d (pos 1) none v k (untargeted r))
term_both d v k r = record {
  both = closed r.weight (lift d k) (pos (2 ^ d.grid) *ℤ pos 1 *ℤ pos (d.plant_denominator ^ k)) r.target (dot d.states r.coefficient (trajectory d (pos 1) none v k))
      (dot_same d.states r.coefficient _ (λ i. neg_ℤ (trajectory d (pos 1) none v k i)) (λ i l. turned d v k i) ∙
      total_same d.states _ _ (λ i l. turn (r.coefficient i) (trajectory d (pos 1) none v k i)) ∙ total_neg d.states (λ i. r.coefficient i *ℤ trajectory d (pos 1) none v k i))
      (dot_same d.states r.coefficient _ none (λ i l. resting d k i) ∙ total_same d.states _ _ (λ i l. *ℤ-zero (r.coefficient i)) ∙ total_zero d.states);
}
  where
    turn : (a b : ℤ) → a *ℤ neg_ℤ b ≡ neg_ℤ (a *ℤ b)
    turn a b = by_ring (a ∷ b ∷ []) (search quotes depth 60 fits 20000) refl

    closed : (w a s t x : ℤ) {y z : ℤ} → y ≡ neg_ℤ x → z ≡ pos 0 →
        w *ℤ square (a *ℤ (x -ℤ s *ℤ t)) +ℤ w *ℤ square (a *ℤ (y -ℤ s *ℤ t)) ≡
        pos 2 *ℤ (w *ℤ square (a *ℤ (z -ℤ s *ℤ t))) +ℤ pos 2 *ℤ (w *ℤ square (a *ℤ (x -ℤ s *ℤ pos 0)))
    closed w a s t x e k = rw (e, k) (by_ring (w ∷ a ∷ s ∷ t ∷ x ∷ []) (search quotes depth 60 fits 20000) refl)

-- sums of rows that add up
total_both : (n : ℕ) (f g h p : ℕ → ℤ) → ((i : ℕ) → i < n → AddsUp (f i) (g i) (h i) (p i)) → AddsUp (total n f) (total n g) (total n h) (total n p)
total_both n f g h p k = record { both = sym (total_add n f g) ∙ total_same n _ _ (λ i l. (k i l).both) ∙ parts n h p }
  where
    parts : (n : ℕ) (h p : ℕ → ℤ) → total n (λ i. pos 2 *ℤ h i +ℤ pos 2 *ℤ p i) ≡ pos 2 *ℤ total n h +ℤ pos 2 *ℤ total n p
    parts n h p = simp (total_add, total_scale)

join_both : {a b c e f g h i j k l m : ℤ} → AddsUp a b c e → AddsUp f g h i → AddsUp j k l m →
    AddsUp (a +ℤ f +ℤ j) (b +ℤ g +ℤ k) (c +ℤ h +ℤ l) (e +ℤ i +ℤ m)
join_both {a} {b} {c} {e} {f} {g} {h} {i} {j} {k} {l} {m} x y z = record { both = omega (arith, ints, x.both, y.both, z.both) }

cost_both : (d : Design) (v : ℕ → ℤ) → AddsUp (cost d (pos 1) none v) (cost d (pos 1) none (λ j. neg_ℤ (v j))) (cost d (pos 1) none none) (curvature d v)
cost_both d v = join_both
    (total_both d.stages _ _ _ _ (λ k l. total_both d.stage_costs _ _ _ _ (λ r m. term_both d v (suc k) (d.stage_cost r))))
    (total_both d.final_costs _ _ _ _ (λ r m. term_both d v d.stages (d.final_cost r)))
    (total_both d.stages _ _ _ _ (λ k l. total_both d.inputs _ _ _ _ (λ r m. own (d.input_weight r) (pos (d.row_denominator * 2 ^ d.grid * d.plant_denominator ^ d.stages)) (v (k * d.inputs + r)))))
  where
    own : (w a x : ℤ) → AddsUp (w *ℤ square (a *ℤ x)) (w *ℤ square (a *ℤ neg_ℤ x)) (w *ℤ square (a *ℤ pos 0)) (w *ℤ square (a *ℤ x))
    own w a x = record { both = by_ring (w ∷ a ∷ x ∷ []) (search quotes depth 60 fits 20000) refl }

-- ---- the curvature
abbrev pub objective : (d : Design) (k : Condensed) (xi : ℕ → ℤ) → Objective
objective d k xi = record {
  entries = entries d;
  hessian = λ i j. pos (4 ^ d.grid) *ℤ k.hessian i j;
  slope = λ j. pos (2 ^ d.grid) *ℤ slope_at d k xi j;
  base = pos 2 *ℤ cost d (pos 1) xi none;
}

-- twice the curvature is v'Hv
pub hessian_law : HessianLaw
hessian_law d k c v =
    closed (cost d (pos 1) none v) (cost d (pos 1) none (λ j. neg_ℤ (v j))) (cost d (pos 1) none none) (curvature d v)
    (pos (4 ^ d.grid)) (dot (entries d) v (image (entries d) k.hessian v)) (pos (2 ^ d.grid) *ℤ pos 1) (dot (entries d) (slope_at d k none) v)
    (quadratic_neg (entries d) k.hessian v) (dot_neg_right (entries d) (slope_at d k none) v)
    (cost_both d v).both (c.costs (pos 1) none v) (c.costs (pos 1) none (λ j. neg_ℤ (v j)))
  where
    closed : (a b n c h q s t : ℤ) {q' t' : ℤ} → q' ≡ q → t' ≡ neg_ℤ t → a +ℤ b ≡ pos 2 *ℤ n +ℤ pos 2 *ℤ c →
        pos 2 *ℤ a ≡ pos 2 *ℤ n +ℤ h *ℤ q +ℤ pos 2 *ℤ s *ℤ t → pos 2 *ℤ b ≡ pos 2 *ℤ n +ℤ h *ℤ q' +ℤ pos 2 *ℤ s *ℤ t' →
        pos 2 *ℤ c ≡ h *ℤ q
    closed a b n c h q s t {q'} {t'} e f g x y = halved a b n c (h *ℤ q) (pos 2 *ℤ s *ℤ t) _ _ g x y (ap (λ (z : ℤ). h *ℤ z) e)
        (ap (λ (z : ℤ). pos 2 *ℤ s *ℤ z) f ∙ turn s t)
      where
        turn : (s t : ℤ) → pos 2 *ℤ s *ℤ neg_ℤ t ≡ neg_ℤ (pos 2 *ℤ s *ℤ t)
        turn s t = by_ring (s ∷ t ∷ []) (search quotes depth 60 fits 20000) refl

        halved : (a b n c p r p' r' : ℤ) → a +ℤ b ≡ pos 2 *ℤ n +ℤ pos 2 *ℤ c → pos 2 *ℤ a ≡ pos 2 *ℤ n +ℤ p +ℤ r → pos 2 *ℤ b ≡ pos 2 *ℤ n +ℤ p' +ℤ r' →
            p' ≡ p → r' ≡ neg_ℤ r → pos 2 *ℤ c ≡ p
        halved a b n c p r p' r' g x y e f = omega (arith, ints, g, x, y, e, f)

-- ---- the curvature is at least rho times the squares of the entries
scale_is : (d : Design) → pos (cost_scale d) ≡ pos d.cost_denominator *ℤ square (pos (d.row_denominator * 2 ^ d.grid * d.plant_denominator ^ d.stages))
scale_is d = ap pos (ap (λ n. d.cost_denominator * n) (pow-two (d.row_denominator * 2 ^ d.grid * d.plant_denominator ^ d.stages)))

own_part : (d : Design) (rho : ℕ) → IsSound d rho → (v : ℕ → ℤ) →
    (pos rho *ℤ square (pos (d.row_denominator * 2 ^ d.grid * d.plant_denominator ^ d.stages)) *ℤ total (entries d) (λ j. square (v j))) ≤ℤ
    total d.stages (λ k. total d.inputs (λ l. d.input_weight l *ℤ
    square (pos (d.row_denominator * 2 ^ d.grid * d.plant_denominator ^ d.stages) *ℤ v (k * d.inputs + l))))
own_part d rho sound v =
    rw (total_blocks d.stages d.inputs (λ j. square (v j)), ← (total_scale d.stages c (λ k. total d.inputs (λ l. square (v (k * d.inputs + l))))))
    (total_mono d.stages _ _ (λ k m. rw (← (total_scale d.inputs c (λ l. square (v (k * d.inputs + l)))))
    (total_mono d.inputs _ _ (λ l o. one (pos rho) (pos (d.row_denominator * 2 ^ d.grid * d.plant_denominator ^ d.stages)) (d.input_weight l) (v (k * d.inputs + l)) (sound.input_weight l o)))))
  where
    c : ℤ
    c = pos rho *ℤ square (pos (d.row_denominator * 2 ^ d.grid * d.plant_denominator ^ d.stages))

    one : (r a w x : ℤ) → r ≤ℤ w → (r *ℤ square a *ℤ square x) ≤ℤ (w *ℤ square (a *ℤ x))
    one r a w x h = le_by (mul_nonneg_z (w -ℤ r) (square (a *ℤ x)) (difference_nonneg h) (square_nonneg_z (a *ℤ x)))
        (by_ring (r ∷ a ∷ w ∷ x ∷ []) (search quotes depth 60 fits 20000) refl)

pub curvature_law : CurvatureLaw
curvature_law d rho sound v = closed (pos (cost_scale d)) (pos rho) (pos d.cost_denominator) (square (pos (d.row_denominator * 2 ^ d.grid * d.plant_denominator ^ d.stages))) (total (entries d) (λ j. square (v j)))
    (total d.stages (λ k. total d.stage_costs (λ r. cost_term d (pos 1) none v (suc k) (untargeted (d.stage_cost r)))))
    (total d.final_costs (λ r. cost_term d (pos 1) none v d.stages (untargeted (d.final_cost r)))) _
    (scale_is d) (omega (arith, ints))
    (total_nonneg d.stages _ (λ k l. total_nonneg d.stage_costs _
    (λ r m. mul_nonneg_z (d.stage_cost r).weight (square (place (suc k) (untargeted (d.stage_cost r)))) (sound.stage_weight r m) (square_nonneg_z (place (suc k) (untargeted (d.stage_cost r)))))))
    (total_nonneg d.final_costs _ (λ r m. mul_nonneg_z (d.final_cost r).weight (square (place d.stages (untargeted (d.final_cost r)))) (sound.final_weight r m) (square_nonneg_z (place d.stages (untargeted (d.final_cost r))))))
    (own_part d rho sound v)
  where
    place : ℕ → CostRow → ℤ
    place k r = lift d k *ℤ (dot d.states r.coefficient (trajectory d (pos 1) none v k) -ℤ pos (2 ^ d.grid) *ℤ pos 1 *ℤ pos (d.plant_denominator ^ k) *ℤ r.target)

    closed : (s r c a x f g h : ℤ) → s ≡ c *ℤ a → pos 0 ≤ℤ c → pos 0 ≤ℤ f → pos 0 ≤ℤ g → (r *ℤ a *ℤ x) ≤ℤ h → (r *ℤ s *ℤ x) ≤ℤ (c *ℤ (f +ℤ g +ℤ h))
    closed s r c a x f g h e pc pf pg k = rw e (le_by (mul-le-mul_left_z c pc (add-le-add_z (add-le-add_z pf pg) k))
        (by_ring (r ∷ c ∷ a ∷ x ∷ f ∷ g ∷ h ∷ []) (search quotes depth 60 fits 20000) refl))

pub cost_is : (d : Design) (k : Condensed) → IsCondensed d k → (q : ℤ) (xi u : ℕ → ℤ) →
    twice_cost (objective d k xi) q u ≡ pos 2 *ℤ cost d q xi u
cost_is d k c q xi u = closed (bend (objective d k xi) u) (pos (4 ^ d.grid) *ℤ dot (entries d) u (image (entries d) k.hessian u))
    (dot (entries d) (λ j. pos (2 ^ d.grid) *ℤ slope_at d k xi j) u) (dot (entries d) (slope_at d k xi) u) (cost d q xi none) (cost d (pos 1) xi none)
    q (pos (2 ^ d.grid)) (cost d q xi u)
    (quadratic_scale (entries d) (pos (4 ^ d.grid)) k.hessian u)
    (total_same (entries d) _ _ (λ j l. mul_assoc_z (pos (2 ^ d.grid)) (slope_at d k xi j) (u j)) ∙
    total_scale (entries d) (pos (2 ^ d.grid)) (λ j. slope_at d k xi j *ℤ u j))
    (cost_scaled d q xi) (c.costs q xi u)
  where
    closed : (b h s t n m q g v : ℤ) → b ≡ h → s ≡ g *ℤ t → n ≡ square q *ℤ m → pos 2 *ℤ v ≡ pos 2 *ℤ n +ℤ h +ℤ pos 2 *ℤ (g *ℤ q) *ℤ t →
        b +ℤ pos 2 *ℤ q *ℤ s +ℤ square q *ℤ (pos 2 *ℤ m) ≡ pos 2 *ℤ v
    closed b h s t n m q g v e f i j = rw (e, f, j, i)
        (by_ring (h ∷ t ∷ m ∷ q ∷ g ∷ []) (search quotes depth 60 fits 20000) refl)

pub bend_is : (d : Design) (k : Condensed) → IsCondensed d k → (xi v : ℕ → ℤ) → bend (objective d k xi) v ≡ pos 2 *ℤ curvature d v
bend_is d k c xi v = quadratic_scale (entries d) (pos (4 ^ d.grid)) k.hessian v ∙ sym (hessian_law d k c v)

-- ---- the expansion along a step
gradient_is : (d : Design) (k : Condensed) (q : ℤ) (xi u : ℕ → ℤ) (j : ℕ) → gradient (objective d k xi) q u j ≡ gradient_at d k q xi u j
gradient_is d k q xi u j = closed q (pos (2 ^ d.grid)) (slope_at d k xi j) _ _ (matrix_scale (entries d) (pos (4 ^ d.grid)) k.hessian u j)
  where
    closed : (q g s a b : ℤ) → a ≡ b → a +ℤ q *ℤ (g *ℤ s) ≡ b +ℤ (g *ℤ q) *ℤ s
    closed q g s a b e = rw e (by_ring (q ∷ g ∷ s ∷ b ∷ []) (search quotes depth 60 fits 20000) refl)

-- the program's hessian is symmetric
pub symmetric : (d : Design) (k : Condensed) → IsCondensed d k → (xi : ℕ → ℤ) → (i j : ℕ) → i < entries d → j < entries d →
    (objective d k xi).hessian i j ≡ (objective d k xi).hessian j i
symmetric d k c xi i j l m = ap (λ (z : ℤ). pos (4 ^ d.grid) *ℤ z) (c.symmetric i j l m)

pub expansion_law : ExpansionLaw
expansion_law d k c q xi u v =
    halved (cost d q xi (λ j. u j +ℤ v j)) (cost d q xi u) (dot (entries d) (gradient_at d k q xi u) v) (curvature d v) _ _ _ _
    (cost_is d k c q xi (λ j. u j +ℤ v j)) (cost_is d k c q xi u)
    (dot_same (entries d) v _ _ (λ j l. gradient_is d k q xi u j) ∙ dot_comm (entries d) v (gradient_at d k q xi u))
    (bend_is d k c xi v) (expands (objective d k xi) q (symmetric d k c xi) u v)
  where
    halved : (a b g c a' b' g' c' : ℤ) → a' ≡ pos 2 *ℤ a → b' ≡ pos 2 *ℤ b → g' ≡ g → c' ≡ pos 2 *ℤ c → a' ≡ b' +ℤ pos 2 *ℤ g' +ℤ c' → a ≡ b +ℤ g +ℤ c
    halved a b g c a' b' g' c' e f h i l = omega (arith, ints, e, f, h, i, l)

-- ---- averages
pub curvature_nonneg : (d : Design) (rho : ℕ) → IsSound d rho → (v : ℕ → ℤ) → pos 0 ≤ℤ curvature d v
curvature_nonneg d rho sound v = cancelled (pos d.cost_denominator) (pos rho) (pos (cost_scale d)) (total (entries d) (λ j. square (v j))) (curvature d v)
    (pos_positive d.cost_denominator sound.cost_denominator) (omega (arith, ints)) (omega (arith, ints))
    (total_nonneg (entries d) _ (λ j l. square_nonneg_z (v j))) (curvature_law d rho sound v)
  where
    cancelled : (c r s x y : ℤ) → pos 0 <ℤ c → pos 0 ≤ℤ r → pos 0 ≤ℤ s → pos 0 ≤ℤ x → (r *ℤ s *ℤ x) ≤ℤ (c *ℤ y) → pos 0 ≤ℤ y
    cancelled c r s x y pc pr ps px h = cancel-le_z c (pos 0) y pc (le_by (add-le-add_z (mul_nonneg_z (r *ℤ s) x (mul_nonneg_z r s pr ps) px) h)
        (by_ring (c ∷ r ∷ s ∷ x ∷ y ∷ []) (search quotes depth 60 fits 20000) refl))

pub average_law : AverageLaw
average_law d rho sound q xi n u =
    halved (pos n) (cost d (pos n *ℤ q) xi (λ j. total n (λ k. u k j))) (total n (λ k. cost d q xi (u k))) _ _
    (cost_is d k c (pos n *ℤ q) xi (λ j. total n (λ k. u k j)))
    (total_same n _ _ (λ h l. cost_is d k c q xi (u h)) ∙ total_scale n (pos 2) (λ h. cost d q xi (u h)))
    (convex (objective d k xi) q (symmetric d k c xi) upward n u)
  where
    k : Condensed
    k = condensed_of d

    c : IsCondensed d k
    c = condensing d sound.inputs

    upward : IsUpward (objective d k xi)
    upward v = rw (bend_is d k c xi v) (mul_nonneg_z (pos 2) (curvature d v) (omega (arith, ints)) (curvature_nonneg d rho sound v))

    halved : (n a b a' b' : ℤ) → a' ≡ pos 2 *ℤ a → b' ≡ pos 2 *ℤ b → a' ≤ℤ (n *ℤ b') → a ≤ℤ (n *ℤ b)
    halved n a b a' b' e f h = cancel-le_z (pos 2) a (n *ℤ b) (omega (arith, ints)) (le_by (rw (e, f) at h) (by_ring (n ∷ a ∷ b ∷ []) (search quotes depth 60 fits 20000) refl))
