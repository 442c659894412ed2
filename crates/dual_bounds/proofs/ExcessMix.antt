-- By how much a plan costs more than the others, at a mixture of two states: for one step d, what a plan costs less the cost of the plan and d is
-- affine in the state and the plan, so at a mixture it is the mixture of what it is at the two.
use Rattle.std.proofs.Common.{◌≡◌, ℕ, ◌<◌, ◌^◌, [], ◌∷◌, ℤ, pos, ◌+ℤ◌, ◌-ℤ◌, ◌*ℤ◌, ◌≤ℤ◌, ◌<ℤ◌, refl, ap, ap₂, sym, subst, ◌∙◌}
use mathlib.Core.Path.{fun_ext}
use Rattle.integer_algebra.specs.Sums.{dot, image, square}
use Rattle.integer_algebra.proofs.OrderLaws.{add-le-add_z, cancel-le_z, le_by, mul_pos_z, mul-le-mul_left_z}
use Rattle.integer_algebra.proofs.RingLaws.{add_difference, add_equations, same_by}
use Rattle.integer_algebra.proofs.SumLaws.{total_same}
use Rattle.integer_algebra.proofs.VectorLaws.{dot_add, dot_scale, image_mix, image_same, image_scale}
use Rattle.integer_algebra.proofs.Quoting.{by_ring, quotes}
use Rattle.qp_model.specs.problem.Design.{Design, entries}
use Rattle.qp_model.specs.problem.Sound.{IsSound}
use Rattle.qp_model.specs.problem.Cost.{cost, cost_scale}
use Rattle.qp_model.specs.form.Condensed.{Condensed, IsCondensed, gradient_at}
use Rattle.qp_model.specs.form.Condensing.{condensed_of}
use Rattle.qp_model.specs.form.Curvature.{curvature}
use Rattle.qp_model.proofs.CostLaws.{condensing}
use Rattle.qp_model.proofs.CurvatureLaws.{expansion_law}
use Rattle.qp_model.proofs.ScalingLaws.{scaling_law}
use Rattle.qp_model.specs.bounds.Excess.{IsNearBest}
use Rattle.dual_bounds.proofs.DesignMix.{Mixture, over as over_of, plan}

-- ---- the gradient at a mixture, all plans over one denominator q
-- a matrix times a mixture
image_blended : (n : ℕ) (h : ℕ → ℕ → ℤ) (a b : ℤ) (u v w : ℕ → ℤ) (j : ℕ) → ((i : ℕ) → i < n → (a +ℤ b) *ℤ w i ≡ a *ℤ u i +ℤ b *ℤ v i) →
    (a +ℤ b) *ℤ image n h w j ≡ a *ℤ image n h u j +ℤ b *ℤ image n h v j
image_blended n h a b u v w j e =
    sym (image_scale n h (a +ℤ b) w j) ∙ image_same n h (λ i. (a +ℤ b) *ℤ w i) (λ i. a *ℤ u i +ℤ b *ℤ v i) j e ∙ image_mix n h a b u v j

gradient_blended : (d : Design) (k : Condensed) (q a b : ℤ) (x y z u v w : ℕ → ℤ) (j : ℕ) →
    ((i : ℕ) → i < d.states → (a +ℤ b) *ℤ z i ≡ a *ℤ x i +ℤ b *ℤ y i) → ((i : ℕ) → (a +ℤ b) *ℤ w i ≡ a *ℤ u i +ℤ b *ℤ v i) →
    (a +ℤ b) *ℤ gradient_at d k q z w j ≡ a *ℤ gradient_at d k q x u j +ℤ b *ℤ gradient_at d k q y v j
gradient_blended d k q a b x y z u v w j e h =
    closed (pos (4 ^ d.grid)) (pos (2 ^ d.grid) *ℤ q) (pos (2 ^ d.grid)) (k.constant j) a b _ _ _ _ _ _
    (image_blended (entries d) k.hessian a b u v w j (λ i l. h i)) (image_blended d.states k.linear a b x y z j e)
  where
    closed : (f g s c a b x y z u v w : ℤ) → (a +ℤ b) *ℤ w ≡ a *ℤ u +ℤ b *ℤ v → (a +ℤ b) *ℤ z ≡ a *ℤ x +ℤ b *ℤ y →
        (a +ℤ b) *ℤ (f *ℤ w +ℤ g *ℤ (z +ℤ s *ℤ c)) ≡ a *ℤ (f *ℤ u +ℤ g *ℤ (x +ℤ s *ℤ c)) +ℤ b *ℤ (f *ℤ v +ℤ g *ℤ (y +ℤ s *ℤ c))
    closed f g s c a b x y z u v w e h = same_by (add_equations (ap (λ (n : ℤ). f *ℤ n) e) (ap (λ (n : ℤ). g *ℤ n) h))
        (by_ring (f ∷ g ∷ s ∷ c ∷ a ∷ b ∷ x ∷ y ∷ z ∷ u ∷ v ∷ w ∷ []) (search quotes depth 60 fits 20000) refl)

-- along one step
slope_blended : (n : ℕ) (a b : ℤ) (f g h v : ℕ → ℤ) → ((j : ℕ) → (a +ℤ b) *ℤ h j ≡ a *ℤ f j +ℤ b *ℤ g j) → (a +ℤ b) *ℤ dot n h v ≡ a *ℤ dot n f v +ℤ b *ℤ dot n g v
slope_blended n a b f g h v e =
    sym (dot_scale n (a +ℤ b) h v) ∙ total_same n _ _ (λ j l. ap (λ (z : ℤ). z *ℤ v j) (e j)) ∙
    dot_add n (λ j. a *ℤ f j) (λ j. b *ℤ g j) v ∙ ap₂ (λ (s t : ℤ). s +ℤ t) (dot_scale n a f v) (dot_scale n b g v)

-- ---- numbers alone
-- a plan costs c over q, which is V over the factor times q, and another w over that
lifted_by : (unit factor q c v w extra : ℤ) → pos 0 <ℤ q → v ≡ square factor *ℤ c →
    (unit *ℤ c *ℤ square (factor *ℤ q)) ≤ℤ ((unit *ℤ w +ℤ extra *ℤ square (factor *ℤ q)) *ℤ square q) →
    (unit *ℤ v) ≤ℤ (unit *ℤ w +ℤ extra *ℤ square (factor *ℤ q))
lifted_by unit factor q c v w extra pq e h = rw e (cancel-le_z (square q) _ _ (mul_pos_z q q pq pq)
    (le_by h (by_ring (unit ∷ factor ∷ q ∷ c ∷ w ∷ extra ∷ []) (search quotes depth 60 fits 20000) refl)))

-- and back
lowered_by : (unit o over c v t w extra : ℤ) → v ≡ square o *ℤ c → w ≡ square over *ℤ t →
    (unit *ℤ v) ≤ℤ (unit *ℤ w +ℤ extra *ℤ square (o *ℤ over)) →
    (unit *ℤ c *ℤ square o) ≤ℤ ((unit *ℤ t +ℤ extra *ℤ square o) *ℤ square over)
lowered_by unit o over c v t w extra e f h = le_by (rw (e, f) at h)
    (by_ring (unit ∷ o ∷ over ∷ c ∷ t ∷ extra ∷ []) (search quotes depth 60 fits 20000) refl)

-- The costs x, y and z of three plans, and what they are one step on: the slopes along it mix.
blended : (unit a b extra x x' y y' z z' p q r c : ℤ) → pos 0 ≤ℤ a → pos 0 ≤ℤ b → pos 0 <ℤ (a +ℤ b) →
    x' ≡ x +ℤ p +ℤ c → y' ≡ y +ℤ q +ℤ c → z' ≡ z +ℤ r +ℤ c → (a +ℤ b) *ℤ r ≡ a *ℤ p +ℤ b *ℤ q →
    (unit *ℤ x) ≤ℤ (unit *ℤ x' +ℤ extra) → (unit *ℤ y) ≤ℤ (unit *ℤ y' +ℤ extra) → (unit *ℤ z) ≤ℤ (unit *ℤ z' +ℤ extra)
blended unit a b extra x x' y y' z z' p q r c pa pb ps e f g k h l =
    rw g (cancel-le_z (a +ℤ b) _ _ ps (le_by (add-le-add_z (mul-le-mul_left_z a pa (rw e at h)) (mul-le-mul_left_z b pb (rw f at l)))
    (same_by (ap (λ (n : ℤ). unit *ℤ n) k)
    (by_ring (unit ∷ a ∷ b ∷ extra ∷ x ∷ y ∷ z ∷ p ∷ q ∷ r ∷ c ∷ []) (search quotes depth 60 fits 20000) refl))))

-- ---- plans
-- a plan that is near the best, over a multiple of its denominator
lifted : (d : Design) (x u : ℕ → ℤ) (q factor over excess : ℤ) → pos 0 <ℤ q → pos 0 <ℤ over → over ≡ factor *ℤ q → IsNearBest d x q u excess → (t : ℕ → ℤ) →
    (pos (2 ^ 16) *ℤ cost d over x (λ j. factor *ℤ u j)) ≤ℤ (pos (2 ^ 16) *ℤ cost d over x t +ℤ excess *ℤ pos (cost_scale d) *ℤ square over)
lifted d x u q factor over excess pq po e h t =
    subst (λ (o : ℤ). (pos (2 ^ 16) *ℤ cost d o x (λ j. factor *ℤ u j)) ≤ℤ (pos (2 ^ 16) *ℤ cost d o x t +ℤ excess *ℤ pos (cost_scale d) *ℤ square o)) (sym e)
    (lifted_by (pos (2 ^ 16)) factor q (cost d q x u) _ (cost d (factor *ℤ q) x t) (excess *ℤ pos (cost_scale d)) pq (scaling_law d factor q x u).costs
    (h (factor *ℤ q) t (subst (λ (o : ℤ). pos 0 <ℤ o) e po)))

-- Where the plans of two states cost at most so much more than any other, their mixture does at the states' mixture.
pub near_best_mixed : (m : Mixture) (rho : ℕ) (excess : ℤ) → IsSound m.d rho → pos 0 ≤ℤ m.a → pos 0 ≤ℤ m.b → pos 0 <ℤ (m.a +ℤ m.b) → pos 0 <ℤ m.q → pos 0 <ℤ m.r →
    IsNearBest m.d m.x m.q m.u excess → IsNearBest m.d m.y m.r m.v excess → IsNearBest m.d m.z (over_of m) (plan m) excess
near_best_mixed m rho excess s pa pb ps pq pr h k o t po =
    lowered_by (pos (2 ^ 16)) o (over_of m) (cost m.d (over_of m) m.z (plan m)) _ (cost m.d o m.z t) _ (excess *ℤ pos (cost_scale m.d))
    (scaling_law m.d o (over_of m) m.z (plan m)).costs other
    (blended (pos (2 ^ 16)) m.a m.b (excess *ℤ pos (cost_scale m.d) *ℤ square whole) _ _ _ _ _ _ _ _ _ (curvature m.d step) pa pb ps
    (expansion_law m.d form condensed whole m.x first step) (expansion_law m.d form condensed whole m.y second step) (expansion_law m.d form condensed whole m.z mixed step)
    (slope_blended (entries m.d) m.a m.b (gradient_at m.d form whole m.x first) (gradient_at m.d form whole m.y second) (gradient_at m.d form whole m.z mixed) step
    (λ j. gradient_blended m.d form whole m.a m.b m.x m.y m.z first second mixed j m.between between))
    (lifted m.d m.x m.u m.q (o *ℤ ((m.a +ℤ m.b) *ℤ m.r)) whole excess pq positive first_over h (λ j. first j +ℤ step j))
    (lifted m.d m.y m.v m.r (o *ℤ ((m.a +ℤ m.b) *ℤ m.q)) whole excess pr positive second_over k (λ j. second j +ℤ step j)))
  where
    form : Condensed
    form = condensed_of m.d

    condensed : IsCondensed m.d form
    condensed = condensing m.d s.inputs

    -- all plans are brought over this
    whole : ℤ
    whole = o *ℤ over_of m

    first : ℕ → ℤ
    first j = o *ℤ ((m.a +ℤ m.b) *ℤ m.r) *ℤ m.u j

    second : ℕ → ℤ
    second j = o *ℤ ((m.a +ℤ m.b) *ℤ m.q) *ℤ m.v j

    mixed : ℕ → ℤ
    mixed j = o *ℤ plan m j

    -- from the mixture to the other plan
    step : ℕ → ℤ
    step j = over_of m *ℤ t j -ℤ o *ℤ plan m j

    positive : pos 0 <ℤ whole
    positive = mul_pos_z o (over_of m) po (mul_pos_z (m.a +ℤ m.b) (m.q *ℤ m.r) ps (mul_pos_z m.q m.r pq pr))

    first_over : whole ≡ o *ℤ ((m.a +ℤ m.b) *ℤ m.r) *ℤ m.q
    first_over = by_ring (o ∷ m.a ∷ m.b ∷ m.q ∷ m.r ∷ []) (search quotes depth 60 fits 20000) refl

    second_over : whole ≡ o *ℤ ((m.a +ℤ m.b) *ℤ m.q) *ℤ m.r
    second_over = by_ring (o ∷ m.a ∷ m.b ∷ m.q ∷ m.r ∷ []) (search quotes depth 60 fits 20000) refl

    between : (j : ℕ) → (m.a +ℤ m.b) *ℤ mixed j ≡ m.a *ℤ first j +ℤ m.b *ℤ second j
    between j = by_ring (o ∷ m.a ∷ m.b ∷ m.q ∷ m.r ∷ m.u j ∷ m.v j ∷ []) (search quotes depth 60 fits 20000) refl

    swapped : whole ≡ over_of m *ℤ o
    swapped = by_ring (o ∷ m.a ∷ m.b ∷ m.q ∷ m.r ∷ []) (search quotes depth 60 fits 20000) refl

    other : cost m.d whole m.z (λ j. mixed j +ℤ step j) ≡ square (over_of m) *ℤ cost m.d o m.z t
    other = ap₂ (λ (n : ℤ) (f : ℕ → ℤ). cost m.d n m.z f) swapped (fun_ext (λ j. add_difference (mixed j) (over_of m *ℤ t j))) ∙ (scaling_law m.d (over_of m) o m.z t).costs
