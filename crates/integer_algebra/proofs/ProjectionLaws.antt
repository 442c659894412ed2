-- The projection on the numbers of 0 .. top, one by one and on a box.
use Rattle.std.proofs.Common.{ℕ, ◌<◌, ℤ, pos, ◌+ℤ◌, ◌-ℤ◌, ◌*ℤ◌, ◌≤ℤ◌, refl, arith, List, [], ◌∷◌}
use Rattle.integer_algebra.specs.Sums.{total, square}
use Rattle.integer_algebra.specs.Bounds.{clamped}
use Rattle.integer_algebra.proofs.SumLaws.{total_add, total_mono}
use Rattle.integer_algebra.proofs.BoundLaws.{nearest}
use Rattle.integer_algebra.proofs.Quoting.{by_ring, quotes}
use Rattle.integer_algebra.proofs.OrderLaws.{le_by, add-le-add_z}
use Rattle.integer_algebra.proofs.Certificates.{known_le}
use Rattle.integer_algebra.proofs.OmegaHints.{fact_hint, le_by_omega}

-- the squares of the ways from b to p and from p to w are together at most that from b to w, where the angle at p is not acute
pub by_projection : (w b p : ℤ) → ((w -ℤ p) *ℤ (b -ℤ p)) ≤ℤ pos 0 → (square (p -ℤ w) +ℤ square (p -ℤ b)) ≤ℤ square (b -ℤ w)
by_projection w b p h =
    let ρ : List ℤ = w ∷ b ∷ p ∷ [] in
    le_by_omega ρ (search quotes depth 60 fits 20000) (omega (arith, fact_hint (known_le ρ h (search quotes depth 60 fits 20000))))

-- the number of 0 .. top that is nearest to b is nearer to each of them than b, in squares by its way from b
pub clamped_nearer : (top b w : ℤ) → pos 0 ≤ℤ top → pos 0 ≤ℤ w → w ≤ℤ top →
    (square (clamped top b -ℤ w) +ℤ square (clamped top b -ℤ b)) ≤ℤ square (b -ℤ w)
clamped_nearer top b w h k l = by_projection w b (clamped top b) (nearest top b w h k l)

-- the step from y by b, with p for the projection of y + b
step_by : (w y b p : ℤ) → ((w -ℤ p) *ℤ (y +ℤ b -ℤ p)) ≤ℤ pos 0 →
    (square (p -ℤ w) +ℤ square (p -ℤ y)) ≤ℤ (square (y -ℤ w) +ℤ pos 2 *ℤ b *ℤ (p -ℤ w))
step_by w y b p h = le_by (add-le-add_z h h) (by_ring (w ∷ y ∷ b ∷ p ∷ []) (search quotes depth 60 fits 20000) refl)

-- what a step from y by b to the nearest number of 0 .. top gains on any of them
pub clamped_step : (top y b w : ℤ) → pos 0 ≤ℤ top → pos 0 ≤ℤ w → w ≤ℤ top →
    let z = clamped top (y +ℤ b) in (square (z -ℤ w) +ℤ square (z -ℤ y)) ≤ℤ (square (y -ℤ w) +ℤ pos 2 *ℤ b *ℤ (z -ℤ w))
clamped_step top y b w h k l = step_by w y b (clamped top (y +ℤ b)) (nearest top (y +ℤ b) w h k l)

-- ---- on a box: the sums over n coordinates
-- the point of a box that is nearest to b is nearer than b to each point of the box
pub box_nearer : (n : ℕ) (top : ℤ) (b w : ℕ → ℤ) → pos 0 ≤ℤ top → ((i : ℕ) → i < n → (pos 0 ≤ℤ w i) × (w i ≤ℤ top)) →
    (total n (λ i. square (clamped top (b i) -ℤ w i)) +ℤ total n (λ i. square (clamped top (b i) -ℤ b i))) ≤ℤ total n (λ i. square (b i -ℤ w i))
box_nearer n top b w h inside =
    rw (← (total_add n (λ i. square (clamped top (b i) -ℤ w i)) (λ i. square (clamped top (b i) -ℤ b i))))
    (total_mono n _ _ (λ i l. clamped_nearer top (b i) (w i) h (inside i l).0 (inside i l).1))

-- what a projected step in n coordinates gains on any point of the box
pub box_step : (n : ℕ) (top : ℤ) (y b w : ℕ → ℤ) → pos 0 ≤ℤ top → ((i : ℕ) → i < n → (pos 0 ≤ℤ w i) × (w i ≤ℤ top)) →
    let z = λ (i : ℕ). clamped top (y i +ℤ b i) in
    (total n (λ i. square (z i -ℤ w i)) +ℤ total n (λ i. square (z i -ℤ y i))) ≤ℤ (total n (λ i. square (y i -ℤ w i)) +ℤ total n (λ i. pos 2 *ℤ b i *ℤ (z i -ℤ w i)))
box_step n top y b w h inside =
    let z = λ (i : ℕ). clamped top (y i +ℤ b i) in
    rw (← (total_add n (λ i. square (z i -ℤ w i)) (λ i. square (z i -ℤ y i))), ← (total_add n (λ i. square (y i -ℤ w i)) (λ i. pos 2 *ℤ b i *ℤ (z i -ℤ w i))))
    (total_mono n _ _ (λ i l. clamped_step top (y i) (b i) (w i) h (inside i l).0 (inside i l).1))
