-- How large the gains and a plan of the machine are.
use Rattle.std.proofs.Common.{◌≡◌, ℕ, ◌^◌, ◌<◌, [], ◌∷◌, ℤ, pos, ◌+ℤ◌, ◌*ℤ◌, neg_ℤ, ◌≤ℤ◌, arith, ap, ◌∙◌, refl}
use Rattle.std.proofs.lemmas.Int.{ints, unsigned_abs-mul}
use Rattle.std.specs.Int.Signed.{≤ℤ_refl}
use Rattle.integer_algebra.specs.Sums.{total, dot, image, square}
use Rattle.integer_algebra.specs.Bounds.{absolute, IsWithin}
use Rattle.integer_algebra.proofs.OrderLaws.{mul-le-mul_left_z, mul-le-mul_right_z, le_trans_z}
use Rattle.integer_algebra.proofs.SumLaws.{total_same, total_add, total_scale, total_mono}
use Rattle.integer_algebra.proofs.BoundLaws.{within_total, absolute_nonneg}
use Rattle.integer_algebra.proofs.Quoting.{by_ring, quotes}
use Rattle.qp_model.specs.form.GoodSolution.{IsGood}
use Rattle.qp_model.proofs.SolutionLaws.{good_entry_times}

-- ---- sums of solutions
-- the absolute value of a sum
absolute_total : (n : ℕ) (f : ℕ → ℤ) → absolute (total n f) ≤ℤ total n (λ i. absolute (f i))
absolute_total n f = let w = within_total n (λ i. absolute (f i)) f (λ i l. own (f i)) in most (total n (λ i. absolute (f i))) (total n f) w.below w.above
  where
    own : (z : ℤ) → IsWithin (absolute z) z
    own z = record { below = omega (arith, ints); above = omega (arith, ints) }

    most : (b z : ℤ) → z ≤ℤ b → neg_ℤ b ≤ℤ z → absolute z ≤ℤ b
    most b z h k = omega (arith, ints, h, k)

pub absolute_mul : (a b : ℤ) → absolute (a *ℤ b) ≡ absolute a *ℤ absolute b
absolute_mul a b = ap pos (unsigned_abs-mul a b)

-- entry j of the columns' solutions against v: 2 floor |S_j| ≤ factor (2^(f+1) sum |C_i| |v_i| + trace sum |v_i|)
pub solutions_sum : (n m : ℕ) (h : ℕ → ℕ → ℤ) (f : ℕ) (c x : ℕ → ℕ → ℤ) (v : ℕ → ℤ) (floor factor : ℤ) → pos 0 ≤ℤ floor → pos 0 ≤ℤ factor →
    ((v : ℕ → ℤ) → (floor *ℤ total n (λ j. square (v j))) ≤ℤ (factor *ℤ dot n v (image n h v))) → ((i : ℕ) → i < m → IsGood n h f (c i) (x i)) → (j : ℕ) → j < n →
    (pos 2 *ℤ floor *ℤ absolute (image m (λ j i. x i j) v j)) ≤ℤ
    (factor *ℤ (pos 2 *ℤ pos (2 ^ f) *ℤ total m (λ i. total n (λ j. absolute (c i j)) *ℤ absolute (v i)) +ℤ total n (λ j. h j j) *ℤ total m (λ i. absolute (v i))))
solutions_sum n m h f c x v floor factor p pf curved good j inside =
    le_trans_z (mul-le-mul_left_z (pos 2 *ℤ floor) (twice floor p) (absolute_total m (λ i. x i j *ℤ v i)))
    (le_trans_z {b = total m (λ i. factor *ℤ (pos 2 *ℤ pos (2 ^ f) *ℤ total n (λ j. absolute (c i j)) +ℤ total n (λ j. h j j)) *ℤ absolute (v i))}
    (rw (← (total_scale m (pos 2 *ℤ floor) (λ i. absolute (x i j *ℤ v i))))
    (total_mono m _ _ (λ i l. rw (absolute_mul (x i j) (v i), ring_left (pos 2 *ℤ floor) (absolute (x i j)) (absolute (v i)))
    (mul-le-mul_right_z (absolute (v i)) (absolute_nonneg (v i)) (good_entry_times n h f (c i) (x i) floor factor p pf curved (good i l) j inside)))))
    (rw (
      total_same m _ _ (λ i l. ring_right factor (pos 2 *ℤ pos (2 ^ f)) (total n (λ j. absolute (c i j))) (total n (λ j. h j j)) (absolute (v i)))
          ∙ total_scale m factor (λ i. (pos 2 *ℤ pos (2 ^ f)) *ℤ (total n (λ j. absolute (c i j)) *ℤ absolute (v i)) +ℤ total n (λ j. h j j) *ℤ absolute (v i)),
      spread m (pos 2 *ℤ pos (2 ^ f)) (total n (λ j. h j j)) (λ i. total n (λ j. absolute (c i j)) *ℤ absolute (v i)) (λ i. absolute (v i)),
    ) (≤ℤ_refl _)))
  where
    twice : (a : ℤ) → pos 0 ≤ℤ a → pos 0 ≤ℤ (pos 2 *ℤ a)
    twice a h = omega (arith, ints, h)

    ring_left : (a b v : ℤ) → a *ℤ (b *ℤ v) ≡ a *ℤ b *ℤ v
    ring_left a b v = by_ring (a ∷ b ∷ v ∷ []) (search quotes depth 60 fits 20000) refl

    ring_right : (k a c t v : ℤ) → k *ℤ (a *ℤ c +ℤ t) *ℤ v ≡ k *ℤ (a *ℤ (c *ℤ v) +ℤ t *ℤ v)
    ring_right k a c t v = by_ring (k ∷ a ∷ c ∷ t ∷ v ∷ []) (search quotes depth 60 fits 20000) refl

    spread : (n : ℕ) (a b : ℤ) (x y : ℕ → ℤ) → total n (λ j. a *ℤ x j +ℤ b *ℤ y j) ≡ a *ℤ total n x +ℤ b *ℤ total n y
    spread n a b x y = simp (total_add, total_scale)
