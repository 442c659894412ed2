-- The size of the entries of a good solution.
use Rattle.std.proofs.Common.{◌≡◌, ℕ, zero, suc, ◌^◌, ◌<◌, [], ◌∷◌, ℤ, pos, negsuc, ◌+ℤ◌, ◌-ℤ◌, ◌*ℤ◌, neg_ℤ, ◌≤ℤ◌, arith, refl}
use Rattle.std.proofs.lemmas.Int.{ints}
use Rattle.integer_algebra.specs.Sums.{total, dot, image, square}
use Rattle.integer_algebra.specs.Bounds.{absolute, IsWithin}
use Rattle.integer_algebra.proofs.OrderLaws.{mul-le-mul_left_z}
use Rattle.integer_algebra.proofs.SumLaws.{total_add, total_scale, greatest}
use Rattle.integer_algebra.proofs.VectorLaws.{quadratic_scale, matrix_scale}
use Rattle.integer_algebra.proofs.StrongLaws.{small_image}
use Rattle.integer_algebra.proofs.Quoting.{by_ring, quotes}
use Rattle.qp_model.specs.form.GoodSolution.{IsGood}

-- an entry of the solution's image, from both inequalities of its system
within_of : (m d c p : ℤ) → pos 0 ≤ℤ p → (pos 2 *ℤ (m -ℤ p *ℤ c)) ≤ℤ d → (pos 2 *ℤ (p *ℤ c -ℤ m)) ≤ℤ d → IsWithin (pos 2 *ℤ p *ℤ absolute c +ℤ d) (pos 2 *ℤ m)
within_of m d c p o h k =
    close m d (p *ℤ c) (p *ℤ neg_ℤ c) (p *ℤ absolute c) (pos 2 *ℤ p *ℤ absolute c) (turned p c) (joined p (absolute c))
    (mul-le-mul_left_z p o (over c).0) (mul-le-mul_left_z p o (over c).1) h k
  where
    over : (c : ℤ) → (c ≤ℤ absolute c) × (neg_ℤ c ≤ℤ absolute c)
    over (pos a) = (omega (arith, ints), omega (arith, ints))
    over (negsuc a) = (omega (arith, ints), omega (arith, ints))

    turned : (p c : ℤ) → p *ℤ neg_ℤ c ≡ neg_ℤ (p *ℤ c)
    turned p c = by_ring (p ∷ c ∷ []) (search quotes depth 60 fits 20000) refl

    joined : (p a : ℤ) → pos 2 *ℤ p *ℤ a ≡ pos 2 *ℤ (p *ℤ a)
    joined p a = by_ring (p ∷ a ∷ []) (search quotes depth 60 fits 20000) refl

    close : (m d t n u w : ℤ) → n ≡ neg_ℤ t → w ≡ pos 2 *ℤ u → t ≤ℤ u → n ≤ℤ u → (pos 2 *ℤ (m -ℤ t)) ≤ℤ d → (pos 2 *ℤ (t -ℤ m)) ≤ℤ d → IsWithin (w +ℤ d) (pos 2 *ℤ m)
    close m d t n u w e g x y h k = record { below = omega (arith, ints); above = omega (arith, ints) }

-- a factor of both
within_times : (k b a : ℤ) → pos 0 ≤ℤ k → IsWithin b a → IsWithin (k *ℤ b) (k *ℤ a)
within_times k b a p h = record { below = mul-le-mul_left_z k p h.below; above = rw (← (turned k b)) (mul-le-mul_left_z k p h.above) }
  where
    turned : (k b : ℤ) → k *ℤ neg_ℤ b ≡ neg_ℤ (k *ℤ b)
    turned k b = by_ring (k ∷ b ∷ []) (search quotes depth 60 fits 20000) refl

-- where `factor` times the form of h is at least floor times the squares: twice the floor times an entry of a good solution is at most the factor times
-- 2^(f+1) the column's absolute sum, and the trace
pub good_entry_times : (n : ℕ) (h : ℕ → ℕ → ℤ) (f : ℕ) (c x : ℕ → ℤ) (floor factor : ℤ) → pos 0 ≤ℤ floor → pos 0 ≤ℤ factor →
    ((v : ℕ → ℤ) → (floor *ℤ total n (λ j. square (v j))) ≤ℤ (factor *ℤ dot n v (image n h v))) → IsGood n h f c x → (j : ℕ) → j < n →
    (pos 2 *ℤ floor *ℤ absolute (x j)) ≤ℤ (factor *ℤ (pos 2 *ℤ pos (2 ^ f) *ℤ total n (λ j. absolute (c j)) +ℤ total n (λ j. h j j)))
good_entry_times zero h f c x floor factor p pf curved good j inside = absurd (omega arith)
good_entry_times (suc n) h f c x floor factor p pf curved good j inside =
    rw (← (spread (suc n) (pos 2 *ℤ pos (2 ^ f)) (λ j. absolute (c j)) (λ j. h j j)), ← (total_scale (suc n) factor (λ j. pos 2 *ℤ pos (2 ^ f) *ℤ absolute (c j) +ℤ h j j)))
    (small_image (suc n) (λ i j. (pos 2 *ℤ factor) *ℤ h i j) (pos 2 *ℤ floor) x (λ j. factor *ℤ (pos 2 *ℤ pos (2 ^ f) *ℤ absolute (c j) +ℤ h j j)) (twice floor p)
    (rw (quadratic_scale (suc n) (pos 2 *ℤ factor) h x, joined floor (total (suc n) (λ j. square (x j))), joined factor (dot (suc n) x (image (suc n) h x))) (mul-le-mul_left_z (pos 2) (omega (arith, ints)) (curved x)))
    (λ i l. rw (matrix_scale (suc n) (pos 2 *ℤ factor) h x i, turn factor (image (suc n) h x i))
    (within_times factor _ _ pf (within_of (image (suc n) h x i) (h i i) (c i) (pos (2 ^ f)) (natural (2 ^ f)) (good i l).0 (good i l).1)))
    (greatest n (λ j. absolute (x j))) j inside)
  where
    twice : (a : ℤ) → pos 0 ≤ℤ a → pos 0 ≤ℤ (pos 2 *ℤ a)
    twice a h = omega (arith, ints, h)

    natural : (n : ℕ) → pos 0 ≤ℤ pos n
    natural n = omega (arith, ints)

    spread : (n : ℕ) (a : ℤ) (x y : ℕ → ℤ) → total n (λ j. a *ℤ x j +ℤ y j) ≡ a *ℤ total n x +ℤ total n y
    spread n a x y = simp (total_add, total_scale)

    joined : (a t : ℤ) → pos 2 *ℤ a *ℤ t ≡ pos 2 *ℤ (a *ℤ t)
    joined a t = by_ring (a ∷ t ∷ []) (search quotes depth 60 fits 20000) refl

    turn : (k m : ℤ) → pos 2 *ℤ k *ℤ m ≡ k *ℤ (pos 2 *ℤ m)
    turn k m = by_ring (k ∷ m ∷ []) (search quotes depth 60 fits 20000) refl

-- where the form itself is
pub good_entry : (n : ℕ) (h : ℕ → ℕ → ℤ) (f : ℕ) (c x : ℕ → ℤ) (floor : ℤ) → pos 0 ≤ℤ floor →
    ((v : ℕ → ℤ) → (floor *ℤ total n (λ j. square (v j))) ≤ℤ dot n v (image n h v)) → IsGood n h f c x → (j : ℕ) → j < n →
    (pos 2 *ℤ floor *ℤ absolute (x j)) ≤ℤ (pos 2 *ℤ pos (2 ^ f) *ℤ total n (λ j. absolute (c j)) +ℤ total n (λ j. h j j))
good_entry n h f c x floor p curved good j inside =
    rw (once _) at (good_entry_times n h f c x floor (pos 1) p (omega (arith, ints)) (λ v. rw (once _) (curved v)) good j inside)
  where
    once : (a : ℤ) → pos 1 *ℤ a ≡ a
    once a = omega (arith, ints)
