-- The cost of an average by weights.
use Rattle.std.proofs.Common.{◌≡◌, ℕ, zero, suc, ◌<◌, [], ◌∷◌, ℤ, pos, negsuc, ◌+ℤ◌, ◌-ℤ◌, ◌*ℤ◌, ◌≤ℤ◌, neg_ℤ, arith, ap, sym, ◌∙◌, refl}
use Rattle.std.proofs.lemmas.Int.{ints}
use Rattle.std.proofs.Math.IntN.{zero-*ℤ}
use Rattle.std.specs.Int.Signed.{≤ℤ_refl}
use Rattle.integer_algebra.specs.Sums.{total, dot, image, square}
use Rattle.integer_algebra.proofs.OrderLaws.{add-le-add_z, le_by, mul_nonneg_z}
use Rattle.integer_algebra.proofs.SumLaws.{total_same, total_zero, total_add, total_scale, total_nonneg}
use Rattle.integer_algebra.proofs.VectorLaws.{dot_same, dot_add, dot_add_right, dot_neg, dot_scale, dot_scale_right, dot_total, image_add, image_scale, image_total, quadratic_neg}
use Rattle.integer_algebra.proofs.Quoting.{by_ring, quotes}
use Rattle.qp_model.specs.method.Objective.{Objective, bend, twice_cost, HasSymmetricHessian, IsUpward}
use Rattle.qp_model.proofs.ObjectiveLaws.{turned}

-- ---- the bend of sums and differences
bend_add : (o : Objective) → HasSymmetricHessian o → (a b : ℕ → ℤ) →
    bend o (λ j. a j +ℤ b j) ≡ bend o a +ℤ pos 2 *ℤ dot o.entries b (image o.entries o.hessian a) +ℤ bend o b
bend_add o s a b =
    dot_same o.entries (λ j. a j +ℤ b j) _ _ (λ j l. image_add o.entries o.hessian a b j) ∙
    dot_add_right o.entries (λ j. a j +ℤ b j) (image o.entries o.hessian a) (image o.entries o.hessian b) ∙
    joined _ _ _ _ (dot_add o.entries a b (image o.entries o.hessian a)) (dot_add o.entries a b (image o.entries o.hessian b)) (turned o s a b)
  where
    joined : (x y w z : ℤ) {c e : ℤ} → c ≡ x +ℤ y → e ≡ w +ℤ z → w ≡ y → c +ℤ e ≡ x +ℤ pos 2 *ℤ y +ℤ z
    joined x y w z h k l = omega (arith, ints)

bend_sub : (o : Objective) → HasSymmetricHessian o → (a b : ℕ → ℤ) →
    bend o (λ j. a j -ℤ b j) ≡ bend o a +ℤ (negsuc 1 *ℤ dot o.entries b (image o.entries o.hessian a) +ℤ bend o b)
bend_sub o s a b = joined _ _ _ (bend_add o s a (λ j. neg_ℤ (b j))) (dot_neg o.entries b (image o.entries o.hessian a)) (quadratic_neg o.entries o.hessian b)
  where
    joined : (x y z : ℤ) {g d f : ℤ} → g ≡ x +ℤ pos 2 *ℤ d +ℤ f → d ≡ neg_ℤ y → f ≡ z → g ≡ x +ℤ (negsuc 1 *ℤ y +ℤ z)
    joined x y z h k l = omega (arith, ints)

bend_scale : (o : Objective) (c : ℤ) (a : ℕ → ℤ) → bend o (λ j. c *ℤ a j) ≡ c *ℤ (c *ℤ bend o a)
bend_scale o c a =
    dot_same o.entries (λ j. c *ℤ a j) _ _ (λ i l. image_scale o.entries o.hessian c a i) ∙
    dot_scale o.entries c a (λ i. c *ℤ image o.entries o.hessian a i) ∙
    ap (λ (z : ℤ). c *ℤ z) (dot_scale_right o.entries c a (image o.entries o.hessian a))

bend_none : (o : Objective) → bend o (λ j. pos 0) ≡ pos 0
bend_none o = total_same o.entries _ _ (λ i l. zero-*ℤ (image o.entries o.hessian (λ j. pos 0) i)) ∙ total_zero o.entries

-- f'H times a sum by weights
form_total : (o : Objective) (n : ℕ) (a : ℕ → ℤ) (f : ℕ → ℤ) (u : ℕ → ℕ → ℤ) →
    total n (λ k. a k *ℤ dot o.entries f (image o.entries o.hessian (u k))) ≡
    dot o.entries f (image o.entries o.hessian (λ j. total n (λ k. a k *ℤ u k j)))
form_total o n a f u =
    total_same n _ _ (λ k l. sym (dot_same o.entries f _ _ (λ i m. image_scale o.entries o.hessian (a k) (u k) i) ∙
    dot_scale_right o.entries (a k) f (image o.entries o.hessian (u k)))) ∙
    dot_total o.entries n f (λ k. image o.entries o.hessian (λ j. a k *ℤ u k j)) ∙
    dot_same o.entries f _ _ (λ i l. image_total o.entries n o.hessian (λ k j. a k *ℤ u k j) i)

-- a sum of products with a vector, by weights
pub dot_weighted : (m n : ℕ) (a : ℕ → ℤ) (f : ℕ → ℤ) (u : ℕ → ℕ → ℤ) →
    total n (λ k. a k *ℤ dot m f (u k)) ≡ dot m f (λ j. total n (λ k. a k *ℤ u k j))
dot_weighted m n a f u =
    total_same n _ _ (λ k l. sym (dot_scale_right m (a k) f (u k))) ∙ dot_total m n f (λ k j. a k *ℤ u k j)

-- ---- averages
-- what is not negative at each index, times its weight, is not negative in sum
spread_up : (n : ℕ) (a x y : ℕ → ℤ) (f : ℤ) → ((k : ℕ) → k < n → pos 0 ≤ℤ a k) → ((k : ℕ) → k < n → pos 0 ≤ℤ (x k +ℤ (negsuc 1 *ℤ y k +ℤ f))) →
    pos 0 ≤ℤ (total n (λ k. a k *ℤ x k) +ℤ (negsuc 1 *ℤ total n (λ k. a k *ℤ y k) +ℤ f *ℤ total n a))
spread_up n a x y f p h = simp (total_add, total_scale) at
    (total_nonneg n (λ k. a k *ℤ x k +ℤ (negsuc 1 *ℤ (a k *ℤ y k) +ℤ f *ℤ a k))
    (λ k l. rw (apart (a k) (x k) (y k) f) (mul_nonneg_z (a k) _ (p k l) (h k l))))
  where
    apart : (a x y f : ℤ) → a *ℤ x +ℤ (negsuc 1 *ℤ (a *ℤ y) +ℤ f *ℤ a) ≡ a *ℤ (x +ℤ (negsuc 1 *ℤ y +ℤ f))
    apart a x y f = by_ring (a ∷ x ∷ y ∷ f ∷ []) (search quotes depth 60 fits 20000) refl

bend_weighted : (o : Objective) → HasSymmetricHessian o → IsUpward o → (n : ℕ) (a : ℕ → ℤ) → ((k : ℕ) → k < n → pos 0 ≤ℤ a k) → (u : ℕ → ℕ → ℤ) →
    bend o (λ j. total n (λ k. a k *ℤ u k j)) ≤ℤ (total n a *ℤ total n (λ k. a k *ℤ bend o (u k)))
bend_weighted o s h zero a p u = rw (bend_none o) (≤ℤ_refl (pos 0))
bend_weighted o s h (suc n) a p u = le_by
    (add-le-add_z (bend_weighted o s h n a (λ k l. p k (omega arith)) u) (mul-le (a n) (p n (omega arith)) spread))
    (more (total n a) (a n) (bend o (λ j. total n (λ k. a k *ℤ u k j))) (dot o.entries (u n) (image o.entries o.hessian (λ j. total n (λ k. a k *ℤ u k j))))
    (bend o (u n)) (total n (λ k. a k *ℤ bend o (u k)))
    (bend_add o s (λ j. total n (λ k. a k *ℤ u k j)) (λ j. a n *ℤ u n j))
    (dot_scale o.entries (a n) (u n) (image o.entries o.hessian (λ j. total n (λ k. a k *ℤ u k j)))) (bend_scale o (a n) (u n)))
  where
    mul-le : (c : ℤ) {a : ℤ} → pos 0 ≤ℤ c → pos 0 ≤ℤ a → pos 0 ≤ℤ (c *ℤ a)
    mul-le c {a} h k = mul_nonneg_z c a h k

    spread : pos 0 ≤ℤ (total n (λ k. a k *ℤ bend o (u k)) +ℤ
        (negsuc 1 *ℤ dot o.entries (u n) (image o.entries o.hessian (λ j. total n (λ k. a k *ℤ u k j))) +ℤ bend o (u n) *ℤ total n a))
    spread = rw (← (form_total o n a (u n) u))
        (spread_up n a (λ k. bend o (u k)) (λ k. dot o.entries (u n) (image o.entries o.hessian (u k))) (bend o (u n))
        (λ k l. p k (omega arith))
        (λ k l. rw (← (bend_sub o s (u k) (u n))) (h (λ j. u k j -ℤ u n j))))

    more : (m c t x f s : ℤ) {b y g : ℤ} → b ≡ t +ℤ pos 2 *ℤ y +ℤ g → y ≡ c *ℤ x → g ≡ c *ℤ (c *ℤ f) →
        (m +ℤ c) *ℤ (s +ℤ c *ℤ f) +ℤ (t +ℤ pos 0) ≡ b +ℤ (m *ℤ s +ℤ c *ℤ (s +ℤ (negsuc 1 *ℤ x +ℤ f *ℤ m)))
    more m c t x f s e h k = rw (e, h, k) (by_ring (m ∷ c ∷ t ∷ x ∷ f ∷ s ∷ []) (search quotes depth 60 fits 20000) refl)

-- the cost of the average by weights is at most the average of the costs
pub convex : (o : Objective) (q : ℤ) → HasSymmetricHessian o → IsUpward o → (n : ℕ) (a : ℕ → ℤ) → ((k : ℕ) → k < n → pos 0 ≤ℤ a k) → (u : ℕ → ℕ → ℤ) →
    twice_cost o (total n a *ℤ q) (λ j. total n (λ k. a k *ℤ u k j)) ≤ℤ (total n a *ℤ total n (λ k. a k *ℤ twice_cost o q (u k)))
convex o q s h n a p u =
    rw (parts n a (λ k. bend o (u k)) (pos 2 *ℤ q) (λ k. dot o.entries o.slope (u k)) (square q *ℤ o.base))
    (le_by (bend_weighted o s h n a p u)
    (closed (total n a) (total n (λ k. a k *ℤ bend o (u k))) q (bend o (λ j. total n (λ k. a k *ℤ u k j))) o.base
    (total n (λ k. a k *ℤ dot o.entries o.slope (u k))) (dot o.entries o.slope (λ j. total n (λ k. a k *ℤ u k j)))
    (dot_weighted o.entries n a o.slope u)))
  where
    parts : (n : ℕ) (a x : ℕ → ℤ) (c : ℤ) (y : ℕ → ℤ) (b : ℤ) →
        total n (λ k. a k *ℤ (x k +ℤ c *ℤ y k +ℤ b)) ≡ total n (λ k. a k *ℤ x k) +ℤ c *ℤ total n (λ k. a k *ℤ y k) +ℤ b *ℤ total n a
    parts n a x c y b = total_same n _ (λ k. a k *ℤ x k +ℤ c *ℤ (a k *ℤ y k) +ℤ b *ℤ a k) (λ k l. apart (a k) (x k) (y k)) ∙ simp (total_add, total_scale)
      where
        apart : (a x y : ℤ) → a *ℤ (x +ℤ c *ℤ y +ℤ b) ≡ a *ℤ x +ℤ c *ℤ (a *ℤ y) +ℤ b *ℤ a
        apart a x y = by_ring (a ∷ x ∷ y ∷ c ∷ b ∷ []) (search quotes depth 60 fits 20000) refl

    closed : (n x q b e y z : ℤ) → y ≡ z → n *ℤ (x +ℤ pos 2 *ℤ q *ℤ y +ℤ square q *ℤ e *ℤ n) +ℤ b ≡
        (b +ℤ pos 2 *ℤ (n *ℤ q) *ℤ z +ℤ square (n *ℤ q) *ℤ e) +ℤ n *ℤ x
    closed n x q b e y z h = rw h (by_ring (n ∷ x ∷ q ∷ b ∷ e ∷ z ∷ []) (search quotes depth 60 fits 20000) refl)
