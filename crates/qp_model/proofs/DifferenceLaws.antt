-- What two plans cost, by the gradients at both; and how much less than a plan any other costs, by the gradient there.
use Rattle.std.proofs.Common.{◌≡◌, ℕ, ◌^◌, [], ◌∷◌, ℤ, pos, ◌+ℤ◌, ◌-ℤ◌, ◌*ℤ◌, ◌≤ℤ◌, ◌<ℤ◌, neg_ℤ, arith, refl, ap, ap₂, sym, ◌∙◌}
use mathlib.Core.Path.{fun_ext}
use Rattle.std.proofs.lemmas.Int.{ints}
use Rattle.integer_algebra.specs.Sums.{total, dot, image, square}
use Rattle.integer_algebra.proofs.OrderLaws.{pos_positive, add-le-add_z, cancel-le_z, le_by, mul-le-mul_left_z, square_nonneg_z}
use Rattle.integer_algebra.proofs.RingLaws.{add_difference}
use Rattle.integer_algebra.proofs.SumLaws.{total_same, total_add, total_scale, total_nonneg}
use Rattle.integer_algebra.proofs.VectorLaws.{dot_add, dot_neg_right, image_scale, quadratic_neg}
use Rattle.integer_algebra.proofs.Quoting.{by_ring, quotes}
use Rattle.qp_model.specs.problem.Design.{Design, entries}
use Rattle.qp_model.specs.problem.Sound.{IsSound}
use Rattle.qp_model.specs.problem.Cost.{cost, cost_scale}
use Rattle.qp_model.specs.form.Condensed.{Condensed, IsCondensed, slope_at, gradient_at}
use Rattle.qp_model.specs.form.Curvature.{curvature}
use Rattle.qp_model.specs.problem.CostShape.{DifferenceLaw, FloorLaw}
use Rattle.qp_model.proofs.CurvatureLaws.{hessian_law, expansion_law, curvature_law}
use Rattle.qp_model.proofs.ScalingLaws.{scaling_law}

-- the gradient at a plan over a multiple of its denominator
gradient_scaled : (d : Design) (k : Condensed) (c q : ℤ) (xi u : ℕ → ℤ) (j : ℕ) → gradient_at d k (c *ℤ q) xi (λ i. c *ℤ u i) j ≡ c *ℤ gradient_at d k q xi u j
gradient_scaled d k c q xi u j = closed (pos (4 ^ d.grid)) (pos (2 ^ d.grid)) c q (slope_at d k xi j) _ _ (image_scale (entries d) k.hessian c u j)
  where
    closed : (f g c q s x y : ℤ) → x ≡ c *ℤ y → f *ℤ x +ℤ (g *ℤ (c *ℤ q)) *ℤ s ≡ c *ℤ (f *ℤ y +ℤ (g *ℤ q) *ℤ s)
    closed f g c q s x y e = rw e (by_ring (f ∷ g ∷ c ∷ q ∷ s ∷ y ∷ []) (search quotes depth 60 fits 20000) refl)

-- a step and its negation bend alike
curvature_turned : (d : Design) (k : Condensed) → IsCondensed d k → (v : ℕ → ℤ) → curvature d (λ j. neg_ℤ (v j)) ≡ curvature d v
curvature_turned d k c v = halved (curvature d (λ j. neg_ℤ (v j))) (curvature d v) (pos (4 ^ d.grid)) (dot (entries d) (λ j. neg_ℤ (v j)) (image (entries d) k.hessian (λ j. neg_ℤ (v j))))
    (dot (entries d) v (image (entries d) k.hessian v)) (hessian_law d k c (λ j. neg_ℤ (v j))) (hessian_law d k c v) (quadratic_neg (entries d) k.hessian v)
  where
    halved : (a b f x y : ℤ) → pos 2 *ℤ a ≡ f *ℤ x → pos 2 *ℤ b ≡ f *ℤ y → x ≡ y → a ≡ b
    halved a b f x y g h e = let turned = g ∙ ap (λ (z : ℤ). f *ℤ z) e in omega (arith, ints, turned, h)

-- ---- over one denominator
-- a plan and a step from it, by the gradients at both ends
step_difference : (d : Design) (k : Condensed) → IsCondensed d k → (o : ℤ) (xi t v : ℕ → ℤ) →
    pos 2 *ℤ cost d o xi (λ j. t j +ℤ v j) ≡ pos 2 *ℤ cost d o xi t +ℤ
    dot (entries d) (λ j. gradient_at d k o xi (λ i. t i +ℤ v i) j +ℤ gradient_at d k o xi t j) v
step_difference d k c o xi t v =
    closed _ _ _ _ _ _ _ _ (expansion_law d k c o xi t v)
    (sym (ap (λ (f : ℕ → ℤ). cost d o xi f) back) ∙ expansion_law d k c o xi (λ j. t j +ℤ v j) (λ j. neg_ℤ (v j)))
    (dot_neg_right (entries d) (gradient_at d k o xi (λ j. t j +ℤ v j)) v) (curvature_turned d k c v)
    (dot_add (entries d) (gradient_at d k o xi (λ i. t i +ℤ v i)) (gradient_at d k o xi t) v)
  where
    returned : (a b : ℤ) → (a +ℤ b) +ℤ neg_ℤ b ≡ a
    returned a b = omega (arith, ints)

    turned : ℕ → ℤ
    turned j = (t j +ℤ v j) +ℤ neg_ℤ (v j)

    back : turned ≡ t
    back = fun_ext (λ j. returned (t j) (v j))

    closed : (a b g h h' c c' s : ℤ) → a ≡ b +ℤ g +ℤ c → b ≡ a +ℤ h' +ℤ c' → h' ≡ neg_ℤ h → c' ≡ c → s ≡ h +ℤ g → pos 2 *ℤ a ≡ pos 2 *ℤ b +ℤ s
    closed a b g h h' c c' s e f x y w = omega (arith, ints, e, f, x, y, w)

-- ---- over two
pub difference_law : DifferenceLaw
difference_law d k c xi q u r t =
    closed _ _ _ _ _ _ (step_difference d k c (r *ℤ q) xi (λ j. q *ℤ t j) step)
    first second
    (total_same (entries d) _ _ (λ j l. ap (λ (z : ℤ). z *ℤ step j) (ap₂ (λ (a b : ℤ). a +ℤ b) (first_gradient j) (second_gradient j))))
  where
    step : ℕ → ℤ
    step j = r *ℤ u j -ℤ q *ℤ t j

    from : ℕ → ℤ
    from j = q *ℤ t j +ℤ step j

    scaled : ℕ → ℤ
    scaled j = r *ℤ u j

    there : from ≡ scaled
    there = fun_ext (λ j. add_difference (q *ℤ t j) (r *ℤ u j))

    swapped : r *ℤ q ≡ q *ℤ r
    swapped = by_ring (r ∷ q ∷ []) (search quotes depth 60 fits 20000) refl

    turned : (a b : ℤ) → square a *ℤ b ≡ b *ℤ square a
    turned a b = by_ring (a ∷ b ∷ []) (search quotes depth 60 fits 20000) refl

    first : cost d (r *ℤ q) xi (λ j. q *ℤ t j +ℤ step j) ≡ cost d q xi u *ℤ square r
    first = ap (λ (f : ℕ → ℤ). cost d (r *ℤ q) xi f) there ∙ (scaling_law d r q xi u).costs ∙ turned r (cost d q xi u)

    second : cost d (r *ℤ q) xi (λ j. q *ℤ t j) ≡ cost d r xi t *ℤ square q
    second = ap (λ (n : ℤ). cost d n xi (λ j. q *ℤ t j)) swapped ∙ (scaling_law d q r xi t).costs ∙ turned q (cost d r xi t)

    first_gradient : (j : ℕ) → gradient_at d k (r *ℤ q) xi (λ i. q *ℤ t i +ℤ step i) j ≡ r *ℤ gradient_at d k q xi u j
    first_gradient j = ap (λ (f : ℕ → ℤ). gradient_at d k (r *ℤ q) xi f j) there ∙ gradient_scaled d k r q xi u j

    second_gradient : (j : ℕ) → gradient_at d k (r *ℤ q) xi (λ i. q *ℤ t i) j ≡ q *ℤ gradient_at d k r xi t j
    second_gradient j = ap (λ (n : ℤ). gradient_at d k n xi (λ i. q *ℤ t i) j) swapped ∙ gradient_scaled d k q r xi t j

    closed : (a b s x y s' : ℤ) → pos 2 *ℤ a ≡ pos 2 *ℤ b +ℤ s → a ≡ x → b ≡ y → s ≡ s' → pos 2 *ℤ x ≡ pos 2 *ℤ y +ℤ s'
    closed a b s x y s' e f g h = omega (arith, ints, e, f, g, h)

-- ---- the floor
-- the squares of g are no less than what g takes off along v, beside what v bends up
squares_over : (n : ℕ) (a c : ℤ) (g v : ℕ → ℤ) →
    pos 0 ≤ℤ (pos 4 *ℤ (a *ℤ c) *ℤ dot n g v +ℤ pos 4 *ℤ square a *ℤ total n (λ j. square (v j)) +ℤ square c *ℤ total n (λ j. square (g j)))
squares_over n a c g v =
    rw (
      ← (total_scale n (pos 4 *ℤ (a *ℤ c)) (λ j. g j *ℤ v j)),
      ← (total_scale n (pos 4 *ℤ square a) (λ j. square (v j))),
      ← (total_scale n (square c) (λ j. square (g j))),
      ← (total_add n (λ j. pos 4 *ℤ (a *ℤ c) *ℤ (g j *ℤ v j)) (λ j. pos 4 *ℤ square a *ℤ square (v j))),
      ← (total_add n (λ j. pos 4 *ℤ (a *ℤ c) *ℤ (g j *ℤ v j) +ℤ pos 4 *ℤ square a *ℤ square (v j)) (λ j. square c *ℤ square (g j))),
    )
    (total_nonneg n _ (λ j l. one a c (g j) (v j)))
  where
    one : (a c g v : ℤ) → pos 0 ≤ℤ (pos 4 *ℤ (a *ℤ c) *ℤ (g *ℤ v) +ℤ pos 4 *ℤ square a *ℤ square v +ℤ square c *ℤ square g)
    one a c g v = le_by (square_nonneg_z (pos 2 *ℤ a *ℤ v +ℤ c *ℤ g)) (by_ring (a ∷ c ∷ g ∷ v ∷ []) (search quotes depth 60 fits 20000) refl)

-- numbers alone: y costs x, the slope and what the step bends up
floor_by : (r s c x y g z v w : ℤ) → pos 0 <ℤ c → pos 0 ≤ℤ (r *ℤ s) → y ≡ x +ℤ g +ℤ z → (r *ℤ s *ℤ v) ≤ℤ (c *ℤ z) →
    pos 0 ≤ℤ (pos 4 *ℤ ((r *ℤ s) *ℤ c) *ℤ g +ℤ pos 4 *ℤ square (r *ℤ s) *ℤ v +ℤ square c *ℤ w) →
    (pos 4 *ℤ (r *ℤ s) *ℤ x) ≤ℤ (pos 4 *ℤ (r *ℤ s) *ℤ y +ℤ c *ℤ w)
floor_by r s c x y g z v w pc pa e h k = rw e (cancel-le_z c _ _ pc
    (le_by (add-le-add_z k (mul-le-mul_left_z (pos 4 *ℤ (r *ℤ s)) (four pa) h)) (by_ring (r ∷ s ∷ c ∷ x ∷ g ∷ z ∷ v ∷ w ∷ []) (search quotes depth 60 fits 20000) refl)))
  where
    four : {a : ℤ} → pos 0 ≤ℤ a → pos 0 ≤ℤ (pos 4 *ℤ a)
    four {a} h = omega (arith, ints)

step_floor : (d : Design) (rho : ℕ) (k : Condensed) → IsSound d rho → IsCondensed d k → (o : ℤ) (xi u v : ℕ → ℤ) →
    (pos 4 *ℤ (pos rho *ℤ pos (cost_scale d)) *ℤ cost d o xi u) ≤ℤ
    (pos 4 *ℤ (pos rho *ℤ pos (cost_scale d)) *ℤ cost d o xi (λ j. u j +ℤ v j) +ℤ
    pos d.cost_denominator *ℤ total (entries d) (λ j. square (gradient_at d k o xi u j)))
step_floor d rho k sound c o xi u v =
    floor_by (pos rho) (pos (cost_scale d)) (pos d.cost_denominator) (cost d o xi u) _ (dot (entries d) (gradient_at d k o xi u) v) (curvature d v)
    (total (entries d) (λ j. square (v j))) (total (entries d) (λ j. square (gradient_at d k o xi u j)))
    (pos_positive d.cost_denominator sound.cost_denominator) (omega (arith, ints)) (expansion_law d k c o xi u v) (curvature_law d rho sound v)
    (squares_over (entries d) (pos rho *ℤ pos (cost_scale d)) (pos d.cost_denominator) (gradient_at d k o xi u) v)

pub floor_law : FloorLaw
floor_law d rho k sound c xi q u r t =
    closed (pos 4 *ℤ (pos rho *ℤ pos (cost_scale d))) (pos d.cost_denominator) (square q) (square r) _ _ _ _ _ _
    (step_floor d rho k sound c (r *ℤ q) xi (λ j. r *ℤ u j) step) (scaling_law d r q xi u).costs other squares
  where
    step : ℕ → ℤ
    step j = q *ℤ t j -ℤ r *ℤ u j

    swapped : r *ℤ q ≡ q *ℤ r
    swapped = by_ring (r ∷ q ∷ []) (search quotes depth 60 fits 20000) refl

    other : cost d (r *ℤ q) xi (λ j. r *ℤ u j +ℤ step j) ≡ square q *ℤ cost d r xi t
    other = ap₂ (λ (n : ℤ) (f : ℕ → ℤ). cost d n xi f) swapped (fun_ext (λ j. add_difference (r *ℤ u j) (q *ℤ t j))) ∙ (scaling_law d q r xi t).costs

    squared : (r g g' : ℤ) → g' ≡ r *ℤ g → square g' ≡ square r *ℤ square g
    squared r g g' e = rw e (by_ring (r ∷ g ∷ []) (search quotes depth 60 fits 20000) refl)

    squares : total (entries d) (λ j. square (gradient_at d k (r *ℤ q) xi (λ i. r *ℤ u i) j)) ≡ square r *ℤ total (entries d) (λ j. square (gradient_at d k q xi u j))
    squares = total_same (entries d) _ _ (λ j l. squared r (gradient_at d k q xi u j) _ (gradient_scaled d k r q xi u j)) ∙
        total_scale (entries d) (square r) (λ j. square (gradient_at d k q xi u j))

    closed : (f c p s x y w x' y' w' : ℤ) → (f *ℤ x') ≤ℤ (f *ℤ y' +ℤ c *ℤ w') → x' ≡ s *ℤ x → y' ≡ p *ℤ y → w' ≡ s *ℤ w →
        (f *ℤ (x *ℤ s)) ≤ℤ (f *ℤ (y *ℤ p) +ℤ c *ℤ w *ℤ s)
    closed f c p s x y w x' y' w' h e g k = le_by (rw (e, g, k) at h) (by_ring (f ∷ c ∷ p ∷ s ∷ x ∷ y ∷ w ∷ []) (search quotes depth 60 fits 20000) refl)
