-- The gradient at a rounded plan.
use Rattle.std.proofs.Common.{◌≡◌, ℕ, ◌<◌, [], ◌∷◌, ℤ, pos, negsuc, ◌+ℤ◌, ◌-ℤ◌, ◌*ℤ◌, ◌≤ℤ◌, arith, ap, sym, ◌∙◌, refl}
use Rattle.std.proofs.lemmas.Int.{ints}
use Rattle.integer_algebra.specs.Sums.{total, image}
use Rattle.integer_algebra.specs.Bounds.{absolute, IsWithin}
use Rattle.std.proofs.Math.IntN.{*ℤ_comm}
use Rattle.step_error.specs.Carried.{GradientLaw}
use Rattle.integer_algebra.proofs.RingLaws.{mul_assoc_z}
use Rattle.integer_algebra.proofs.SumLaws.{total_same, total_add, total_scale, total_scale_right, total_swap}
use Rattle.integer_algebra.proofs.BoundLaws.{within_total, within_sum, within_neg, within_times, within_double}
use Rattle.integer_algebra.proofs.Quoting.{by_ring, quotes}

-- the plan's rounding, through a row of the hessian
rounding : (n : ℕ) (h e : ℕ → ℤ) (scale : ℤ) → ((l : ℕ) → l < n → (pos 0 ≤ℤ e l) × (e l ≤ℤ scale)) →
    IsWithin (scale *ℤ total n (λ l. absolute (h l))) (total n (λ l. h l *ℤ e l))
rounding n h e scale k = rw (← (total_scale n scale (λ l. absolute (h l))))
    (within_total n _ _ (λ l m. rw (*ℤ_comm (h l) (e l)) (within_times scale (e l) (h l) (both (e l) (k l m).0 (k l m).1))))
  where
    both : (x : ℤ) → pos 0 ≤ℤ x → x ≤ℤ scale → IsWithin scale x
    both x h k = record { below = k; above = omega (arith, ints) }

-- the columns' errors against the numbers that they are multiplied by
columns_error : (n : ℕ) (d e v : ℕ → ℤ) → ((i : ℕ) → i < n → IsWithin (d i) (e i)) →
    IsWithin (total n (λ i. d i *ℤ absolute (v i))) (total n (λ i. e i *ℤ v i))
columns_error n d e v h = within_total n _ _ (λ i l. within_times (d i) (e i) (v i) (h i l))

-- the gradient, as the rounding less the columns' errors
split : (entries columns : ℕ) (hessian x c : ℕ → ℕ → ℤ) (unit scale : ℤ) (v u : ℕ → ℤ) (j : ℕ) →
    pos 2 *ℤ (scale *ℤ image entries hessian u j +ℤ unit *ℤ image columns c v j) ≡
    pos 2 *ℤ total entries (λ l. hessian j l *ℤ (scale *ℤ u l +ℤ image columns x v l)) -ℤ
    total columns (λ i. pos 2 *ℤ (total entries (λ l. hessian j l *ℤ x l i) -ℤ unit *ℤ c j i) *ℤ v i)
split entries columns hessian x c unit scale v u j = closed _ _ _ rounded errors
  where
    turn : (h s u w : ℤ) → h *ℤ (s *ℤ u +ℤ w) ≡ s *ℤ (h *ℤ u) +ℤ h *ℤ w
    turn h s u w = by_ring (h ∷ s ∷ u ∷ w ∷ []) (search quotes depth 60 fits 20000) refl

    rounded : total entries (λ l. hessian j l *ℤ (scale *ℤ u l +ℤ image columns x v l)) ≡
        scale *ℤ image entries hessian u j +ℤ total entries (λ l. hessian j l *ℤ image columns x v l)
    rounded = total_same entries _ _ (λ l m. turn (hessian j l) scale (u l) (image columns x v l)) ∙
        total_add entries (λ l. scale *ℤ (hessian j l *ℤ u l)) (λ l. hessian j l *ℤ image columns x v l) ∙
        ap (λ (z : ℤ). z +ℤ total entries (λ l. hessian j l *ℤ image columns x v l)) (total_scale entries scale (λ l. hessian j l *ℤ u l))

    through : total entries (λ l. hessian j l *ℤ image columns x v l) ≡ total columns (λ i. total entries (λ l. hessian j l *ℤ x l i) *ℤ v i)
    through = total_same entries _ _ (λ l m. sym (total_scale columns (hessian j l) (λ i. x l i *ℤ v i))) ∙
        total_swap entries columns (λ l i. hessian j l *ℤ (x l i *ℤ v i)) ∙
        total_same columns _ _ (λ i m. total_same entries _ _ (λ l o. sym (mul_assoc_z (hessian j l) (x l i) (v i))) ∙
        total_scale_right entries (v i) (λ l. hessian j l *ℤ x l i))

    turn_back : (a b w : ℤ) → pos 2 *ℤ (a -ℤ unit *ℤ b) *ℤ w ≡ pos 2 *ℤ (a *ℤ w) +ℤ negsuc 1 *ℤ unit *ℤ (b *ℤ w)
    turn_back a b w = by_ring (a ∷ b ∷ w ∷ unit ∷ []) (search quotes depth 60 fits 20000) refl

    parts : (n : ℕ) (a b : ℤ) (f g : ℕ → ℤ) → total n (λ i. a *ℤ f i +ℤ b *ℤ g i) ≡ a *ℤ total n f +ℤ b *ℤ total n g
    parts n a b f g = simp (total_add, total_scale)

    errors : total columns (λ i. pos 2 *ℤ (total entries (λ l. hessian j l *ℤ x l i) -ℤ unit *ℤ c j i) *ℤ v i) ≡
        pos 2 *ℤ total entries (λ l. hessian j l *ℤ image columns x v l) +ℤ negsuc 1 *ℤ unit *ℤ image columns c v j
    errors = rw through (total_same columns _ _ (λ i m. turn_back (total entries (λ l. hessian j l *ℤ x l i)) (c j i) (v i)) ∙
        parts columns (pos 2) (negsuc 1 *ℤ unit) (λ i. total entries (λ l. hessian j l *ℤ x l i) *ℤ v i) (λ i. c j i *ℤ v i))

    closed : (a b w : ℤ) {r e : ℤ} → r ≡ scale *ℤ a +ℤ w → e ≡ pos 2 *ℤ w +ℤ negsuc 1 *ℤ unit *ℤ b →
        pos 2 *ℤ (scale *ℤ a +ℤ unit *ℤ b) ≡ pos 2 *ℤ r -ℤ e
    closed a b w h k = rw (h, k) (by_ring (a ∷ b ∷ w ∷ scale ∷ unit ∷ []) (search quotes depth 60 fits 20000) refl)

pub gradient : GradientLaw
gradient entries columns hessian x c residual unit scale v u near rounded j l =
    rw (split entries columns hessian x c unit scale v u j)
    (within_sum _ _ _ _
    (within_double _ _ (rounding entries (hessian j) (λ l. scale *ℤ u l +ℤ image columns x v l) scale rounded))
    (within_neg _ _ (columns_error columns (λ i. residual j i) (λ i. pos 2 *ℤ (total entries (λ l. hessian j l *ℤ x l i) -ℤ unit *ℤ c j i)) v (λ i m. near i j m l))))
