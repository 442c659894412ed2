-- How far the residuals that a step uses are from the true ones.
use Rattle.std.proofs.Common.{◌≡◌, ℕ, ◌<◌, [], ◌∷◌, ℤ, pos, negsuc, ◌+ℤ◌, ◌-ℤ◌, ◌*ℤ◌, neg_ℤ, ◌≤ℤ◌, ◌<ℤ◌, arith, ◌∙◌, refl}
use Rattle.std.proofs.lemmas.Int.{ints}
use Rattle.integer_algebra.specs.Sums.{total, dot}
use Rattle.integer_algebra.specs.Bounds.{absolute, IsWithin}
use Rattle.integer_algebra.specs.Division.{floor_of, round_of}
use Rattle.integer_algebra.proofs.OrderLaws.{le_by, le_of_lt_z, add-le-add_z}
use Rattle.integer_algebra.proofs.SumLaws.{total_same, total_scale, total_add}
use Rattle.integer_algebra.proofs.BoundLaws.{within_total, within_times}
use Rattle.integer_algebra.proofs.DivisionLaws.{floor_of_is, round_of_bounds}
use Rattle.integer_algebra.proofs.Quoting.{by_ring, quotes}
use Rattle.step_error.proofs.Slopes.{within_same}

-- ---- one number rounded to the nearest: twice what it misses is at most the divisor
pub rounded_within : (z : ℤ) (d : ℕ) → 0 < d → IsWithin (pos d) (pos 2 *ℤ (round_of z d *ℤ pos d -ℤ z))
rounded_within z d h = let b = round_of_bounds z d h in record { below = low (round_of z d *ℤ pos d) z (pos d) b.0; above = high (round_of z d *ℤ pos d) z (pos d) b.1 }
  where
    low : (q z e : ℤ) → (pos 2 *ℤ q) ≤ℤ (pos 2 *ℤ z +ℤ e) → (pos 2 *ℤ (q -ℤ z)) ≤ℤ e
    low q z e h = omega (arith, ints, h)

    high : (q z e : ℤ) → (pos 2 *ℤ z +ℤ e) <ℤ (pos 2 *ℤ q +ℤ pos 2 *ℤ e) → neg_ℤ e ≤ℤ (pos 2 *ℤ (q -ℤ z))
    high q z e h = omega (arith, ints, h)

-- ---- a sum of products with rounded numbers: twice what it misses is at most the divisor times the absolute sum of the others
pub rounded_dot : (n : ℕ) (g r u : ℕ → ℤ) (d : ℕ) (f : ℤ) → 0 < d → ((j : ℕ) → j < n → r j ≡ round_of (f *ℤ g j) d) →
    IsWithin (pos d *ℤ total n (λ j. absolute (u j))) (pos 2 *ℤ (pos d *ℤ dot n r u -ℤ f *ℤ dot n g u))
rounded_dot n g r u d f p is =
    within_same (total_scale n (pos d) (λ j. absolute (u j))) collected
    (within_total n (λ j. pos d *ℤ absolute (u j)) (λ j. pos 2 *ℤ (r j *ℤ pos d -ℤ f *ℤ g j) *ℤ u j)
    (λ j h. within_times (pos d) (pos 2 *ℤ (r j *ℤ pos d -ℤ f *ℤ g j)) (u j) (rw (is j h) (rounded_within (f *ℤ g j) d p))))
  where
    turn : (r e f g u : ℤ) → pos 2 *ℤ (r *ℤ e -ℤ f *ℤ g) *ℤ u ≡ (pos 2 *ℤ e) *ℤ (r *ℤ u) +ℤ (negsuc 1 *ℤ f) *ℤ (g *ℤ u)
    turn r e f g u = by_ring (r ∷ e ∷ f ∷ g ∷ u ∷ []) (search quotes depth 60 fits 20000) refl

    spread : (n : ℕ) (a b : ℤ) (x y : ℕ → ℤ) → total n (λ j. a *ℤ x j +ℤ b *ℤ y j) ≡ a *ℤ total n x +ℤ b *ℤ total n y
    spread n a b x y = simp (total_add, total_scale)

    closed : (e f a b : ℤ) → (pos 2 *ℤ e) *ℤ a +ℤ (negsuc 1 *ℤ f) *ℤ b ≡ pos 2 *ℤ (e *ℤ a -ℤ f *ℤ b)
    closed e f a b = by_ring (e ∷ f ∷ a ∷ b ∷ []) (search quotes depth 60 fits 20000) refl

    collected : total n (λ j. pos 2 *ℤ (r j *ℤ pos d -ℤ f *ℤ g j) *ℤ u j) ≡ pos 2 *ℤ (pos d *ℤ dot n r u -ℤ f *ℤ dot n g u)
    collected = total_same n _ _ (λ j h. turn (r j) (pos d) f (g j) (u j)) ∙ spread n (pos 2 *ℤ pos d) (negsuc 1 *ℤ f) (λ j. r j *ℤ u j) (λ j. g j *ℤ u j) ∙ closed (pos d) f (dot n r u) (dot n g u)

-- ---- the floor of a row's sum: it misses the sum by less than the divisor
pub floor_within : (z : ℤ) (d : ℕ) → 0 < d → IsWithin (pos d) (pos d *ℤ floor_of z d -ℤ z)
floor_within z d h = let k = floor_of_is z d h in record { below = low (floor_of z d) z (pos d) (omega (arith, ints)) k.least; above = high (floor_of z d) z (pos d) k.greatest }
  where
    low : (q z e : ℤ) → pos 0 ≤ℤ e → (q *ℤ e) ≤ℤ z → (e *ℤ q -ℤ z) ≤ℤ e
    low q z e p h = le_by (add-le-add_z p h) (by_ring (q ∷ z ∷ e ∷ []) (search quotes depth 60 fits 20000) refl)

    high : (q z e : ℤ) → z <ℤ ((q +ℤ pos 1) *ℤ e) → neg_ℤ e ≤ℤ (e *ℤ q -ℤ z)
    high q z e h = le_by (le_of_lt_z h) (by_ring (q ∷ z ∷ e ∷ []) (search quotes depth 60 fits 20000) refl)
