-- A symmetric matrix bends a list up or down by no more than its greatest row of absolute values, times the squares of the list.
use Rattle.std.proofs.Common.{◌≡◌, ℕ, suc, ◌<◌, ◌≤◌, [], ◌∷◌, ℤ, pos, negsuc, ◌+ℤ◌, ◌-ℤ◌, ◌*ℤ◌, ◌≤ℤ◌, neg_ℤ, unsigned_abs, arith, ap, ◌∙◌, refl}
use Rattle.std.proofs.lemmas.Int.{ints}
use Rattle.integer_algebra.specs.Bounds.{absolute}
use Rattle.integer_algebra.specs.Sizes.{size}
use Rattle.integer_algebra.specs.Sums.{total, dot, image, square}
use Rattle.integer_algebra.proofs.OrderLaws.{le_by, mul_nonneg_z, square_nonneg_z, mul-le-mul_right_z}
use Rattle.integer_algebra.proofs.SumLaws.{total_same, total_add, total_scale, total_scale_right, total_swap, total_nonneg, total_mono}
use Rattle.integer_algebra.proofs.SizeLaws.{total_amount}
use Rattle.integer_algebra.proofs.Quoting.{by_ring, quotes}

-- one product against the two squares
beside : (a x y : ℤ) → pos 0 ≤ℤ (pos 2 *ℤ (x *ℤ (a *ℤ y)) +ℤ (absolute a *ℤ square x +ℤ absolute a *ℤ square y))
beside (pos n) x y = le_by (mul_nonneg_z (pos n) (square (x +ℤ y)) (omega (arith, ints)) (square_nonneg_z (x +ℤ y))) (turn (pos n) x y)
  where
    turn : (a x y : ℤ) → pos 2 *ℤ (x *ℤ (a *ℤ y)) +ℤ (a *ℤ square x +ℤ a *ℤ square y) +ℤ pos 0 ≡ pos 0 +ℤ a *ℤ square (x +ℤ y)
    turn a x y = by_ring (a ∷ x ∷ y ∷ []) (search quotes depth 60 fits 20000) refl
beside (negsuc n) x y = le_by (mul_nonneg_z (pos (suc n)) (square (x -ℤ y)) (omega (arith, ints)) (square_nonneg_z (x -ℤ y))) (turn (pos (suc n)) x y)
  where
    turn : (a x y : ℤ) → pos 2 *ℤ (x *ℤ (neg_ℤ a *ℤ y)) +ℤ (a *ℤ square x +ℤ a *ℤ square y) +ℤ pos 0 ≡ pos 0 +ℤ a *ℤ square (x -ℤ y)
    turn a x y = by_ring (a ∷ x ∷ y ∷ []) (search quotes depth 60 fits 20000) refl

-- three sums at once
summed : (n : ℕ) (p q r : ℕ → ℤ) → ((j : ℕ) → j < n → pos 0 ≤ℤ (pos 2 *ℤ p j +ℤ (q j +ℤ r j))) → pos 0 ≤ℤ (pos 2 *ℤ total n p +ℤ (total n q +ℤ total n r))
summed n p q r h = simp (total_add, total_scale) at (total_nonneg n (λ j. pos 2 *ℤ p j +ℤ (q j +ℤ r j)) h)

row_size : (n : ℕ) (e : ℕ → ℕ → ℤ) (i : ℕ) (x : ℤ) → total n (λ j. absolute (e i j) *ℤ x) ≡ pos (size n (e i)) *ℤ x
row_size n e i x = total_scale_right n x (λ j. absolute (e i j)) ∙ ap (λ (z : ℤ). z *ℤ x) (total_amount n (λ j. unsigned_abs (e i j)))

-- the fact, summed over a row
row_sum : (n : ℕ) (e : ℕ → ℕ → ℤ) (u : ℕ → ℤ) (i : ℕ) →
    pos 0 ≤ℤ (pos 2 *ℤ (u i *ℤ image n e u i) +ℤ (pos (size n (e i)) *ℤ square (u i) +ℤ total n (λ j. absolute (e i j) *ℤ square (u j))))
row_sum n e u i = along _ (summed n (λ j. u i *ℤ (e i j *ℤ u j)) (λ j. absolute (e i j) *ℤ square (u i)) (λ j. absolute (e i j) *ℤ square (u j)) (λ j l. beside (e i j) (u i) (u j)))
    (total_scale n (u i) (λ j. e i j *ℤ u j)) (row_size n e i (square (u i)))
  where
    along : {p q x y : ℤ} (r : ℤ) → pos 0 ≤ℤ (pos 2 *ℤ p +ℤ (q +ℤ r)) → p ≡ x → q ≡ y → pos 0 ≤ℤ (pos 2 *ℤ x +ℤ (y +ℤ r))
    along r h f g = rw (← f, ← g) h

-- the columns are the rows
columns : (n : ℕ) (e : ℕ → ℕ → ℤ) (u : ℕ → ℤ) → ((i j : ℕ) → i < n → j < n → e i j ≡ e j i) →
    total n (λ i. total n (λ j. absolute (e i j) *ℤ square (u j))) ≡ total n (λ i. pos (size n (e i)) *ℤ square (u i))
columns n e u s = total_swap n n (λ i j. absolute (e i j) *ℤ square (u j)) ∙
    total_same n _ _ (λ j l. total_same n _ _ (λ i k. ap (λ (z : ℤ). absolute z *ℤ square (u j)) (s i j k l)) ∙ row_size n e j (square (u j)))

pub radius_law : (n top : ℕ) (e : ℕ → ℕ → ℤ) → ((i j : ℕ) → i < n → j < n → e i j ≡ e j i) → ((i : ℕ) → i < n → size n (e i) ≤ top) → (u : ℕ → ℤ) →
    pos 0 ≤ℤ (dot n u (image n e u) +ℤ pos top *ℤ total n (λ i. square (u i)))
radius_law n top e s h u = numbers (dot n u (image n e u)) (total n (λ i. pos (size n (e i)) *ℤ square (u i))) _ (pos top *ℤ total n (λ i. square (u i)))
    (summed n (λ i. u i *ℤ image n e u i) (λ i. pos (size n (e i)) *ℤ square (u i)) (λ i. total n (λ j. absolute (e i j) *ℤ square (u j))) (λ i l. row_sum n e u i))
    (columns n e u s) (rw (← (total_scale n (pos top) (λ i. square (u i)))) (total_mono n _ _ (λ i l. mul-le-mul_right_z (square (u i)) (square_nonneg_z (u i)) (natural (h i l)))))
  where
    natural : {a b : ℕ} → a ≤ b → pos a ≤ℤ pos b
    natural k = omega (arith, ints, k)

    numbers : (f o c t : ℤ) → pos 0 ≤ℤ (pos 2 *ℤ f +ℤ (o +ℤ c)) → c ≡ o → o ≤ℤ t → pos 0 ≤ℤ (f +ℤ t)
    numbers f o c t h e k = omega (arith, ints)
