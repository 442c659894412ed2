-- One step of the accelerated method.
use Rattle.std.proofs.Common.{◌≡◌, ℕ, ◌<◌, [], ◌∷◌, ℤ, pos, ◌+ℤ◌, ◌-ℤ◌, ◌*ℤ◌, ◌≤ℤ◌, ◌<ℤ◌, neg_ℤ, arith, ap, sym, ◌∙◌, refl}
use Rattle.std.proofs.lemmas.Int.{ints, by_lt_z}
use Rattle.integer_algebra.specs.Sums.{total, dot, image, coimage, square}
use Rattle.integer_algebra.specs.Bounds.{clamped, IsWithin}
use Rattle.integer_algebra.proofs.OrderLaws.{le_of_lt_z, add-le-add_z, difference_nonneg, le_by, mul_nonneg_z, mul_pos_z, square_nonneg_z, mul-le-mul_left_z, cancel-le_z}
use Rattle.integer_algebra.proofs.SumLaws.{total_same, total_add, total_neg, total_scale, total_nonneg}
use Rattle.integer_algebra.proofs.VectorLaws.{dot_same, dot_add, dot_add_right, dot_scale, dot_image, image_to}
use Rattle.integer_algebra.proofs.BoundLaws.{within_product}
use Rattle.integer_algebra.proofs.Quoting.{by_ring, quotes}
use Rattle.qp_model.specs.method.Objective.{bend, twice_cost, gradient}
use Rattle.qp_model.specs.method.Dual.{InBox, row_residual, distance}
use Rattle.qp_model.proofs.ObjectiveLaws.{expands_to}
use Rattle.qp_model.proofs.MethodRowLaws.{row_step}
use Rattle.qp_model.proofs.StepLaws.{stays}
use Rattle.fast_machine.specs.Fast.{FastStepLaw}

-- ---- one row, one entry
-- the square of a row's step against n times the row's move
row_drive : (n r s b m g : ℤ) → pos 0 ≤ℤ r →
    pos 0 ≤ℤ (r *ℤ s *ℤ square b *ℤ (s *ℤ square m) +ℤ r *ℤ s *ℤ b *ℤ pos 2 *ℤ n *ℤ (m *ℤ g) +ℤ square n *ℤ (r *ℤ square g))
row_drive n r s b m g h = le_by (mul_nonneg_z r (square (s *ℤ b *ℤ m +ℤ n *ℤ g)) h (square_nonneg_z (s *ℤ b *ℤ m +ℤ n *ℤ g)))
    (by_ring (n ∷ r ∷ s ∷ b ∷ m ∷ g ∷ []) (search quotes depth 60 fits 20000) refl)

-- an entry's error against its move: r is the curvature's factor, over s
entry_error : (c r s a d x : ℤ) → pos 0 ≤ℤ c → pos 0 ≤ℤ r → pos 0 ≤ℤ s → IsWithin (c *ℤ a) x →
    pos 0 ≤ℤ (c *ℤ square s *ℤ square a +ℤ c *ℤ square r *ℤ square d +ℤ pos 2 *ℤ r *ℤ s *ℤ (x *ℤ d))
entry_error c r s a d x p q o h = by_lt_z d (pos 0)
    (λ l. le_by (add-le-add_z (mul_nonneg_z c (square (s *ℤ a +ℤ r *ℤ d)) p (square_nonneg_z (s *ℤ a +ℤ r *ℤ d)))
    (mul_nonneg_z (pos 2 *ℤ (r *ℤ s)) (neg_ℤ d *ℤ (c *ℤ a -ℤ x)) (mul_nonneg_z (pos 2) (r *ℤ s) (omega (arith, ints)) (mul_nonneg_z r s q o))
    (mul_nonneg_z (neg_ℤ d) (c *ℤ a -ℤ x) (omega (arith, ints)) (difference_nonneg h.below))))
    (by_ring (c ∷ r ∷ s ∷ a ∷ d ∷ x ∷ []) (search quotes depth 60 fits 20000) refl))
    (λ l. le_by (add-le-add_z (mul_nonneg_z c (square (s *ℤ a -ℤ r *ℤ d)) p (square_nonneg_z (s *ℤ a -ℤ r *ℤ d)))
    (mul_nonneg_z (pos 2 *ℤ (r *ℤ s)) (d *ℤ (c *ℤ a +ℤ x)) (mul_nonneg_z (pos 2) (r *ℤ s) (omega (arith, ints)) (mul_nonneg_z r s q o))
    (mul_nonneg_z d (c *ℤ a +ℤ x) l (omega (arith, ints, h.above)))))
    (by_ring (c ∷ r ∷ s ∷ a ∷ d ∷ x ∷ []) (search quotes depth 60 fits 20000) refl))

-- one row: what the move gains, and what the computed value misses
row_gain : (b a s top y v z w c beta : ℤ) → pos 0 <ℤ b → pos 0 <ℤ s → pos 0 ≤ℤ y → y ≤ℤ top → pos 0 ≤ℤ w → w ≤ℤ top →
    pos 0 ≤ℤ z → z ≤ℤ top →
    pos 2 *ℤ s *ℤ z ≡ clamped (pos 2 *ℤ s *ℤ top) (pos 2 *ℤ s *ℤ y +ℤ v) → IsWithin (b *ℤ a *ℤ beta) (b *ℤ v -ℤ a *ℤ c) →
    pos 0 ≤ℤ (b *ℤ (s *ℤ square (w -ℤ y) -ℤ s *ℤ square (w -ℤ z) -ℤ s *ℤ square (z -ℤ y)) +ℤ
    b *ℤ a *ℤ top *ℤ beta -ℤ a *ℤ (w *ℤ c -ℤ z *ℤ c))
row_gain b a s top y v z w c beta pb ps ly hy lw hw lz hz e h = joined (le_of_lt_z pb)
    (row_step (pos 2 *ℤ s) top y v z w (mul_pos_z (pos 2) s (omega (arith, ints)) ps) (omega (arith, ints)) lw hw e)
    (within_product (b *ℤ a *ℤ beta) (b *ℤ v -ℤ a *ℤ c) top (w -ℤ z) h (record { below = omega (arith, ints); above = omega (arith, ints) }))
  where
    joined : pos 0 ≤ℤ b →
        (pos 2 *ℤ ((w -ℤ z) *ℤ v)) ≤ℤ (pos 2 *ℤ s *ℤ square (w -ℤ y) -ℤ pos 2 *ℤ s *ℤ square (w -ℤ z) -ℤ pos 2 *ℤ s *ℤ square (z -ℤ y)) →
        pos 0 ≤ℤ (top *ℤ (b *ℤ a *ℤ beta) +ℤ (w -ℤ z) *ℤ (b *ℤ v -ℤ a *ℤ c)) →
        pos 0 ≤ℤ (b *ℤ (s *ℤ square (w -ℤ y) -ℤ s *ℤ square (w -ℤ z) -ℤ s *ℤ square (z -ℤ y)) +ℤ
        b *ℤ a *ℤ top *ℤ beta -ℤ a *ℤ (w *ℤ c -ℤ z *ℤ c))
    joined p m n = cancel-le_z (pos 2) (pos 0) _ (omega (arith, ints))
        (le_by (add-le-add_z (mul-le-mul_left_z b p m) (mul-le-mul_left_z (pos 2) (omega (arith, ints)) n))
        (by_ring (b ∷ a ∷ s ∷ top ∷ y ∷ v ∷ z ∷ w ∷ c ∷ beta ∷ []) (search quotes depth 60 fits 20000) refl))

-- ---- the sums over rows and entries
drives : (m : ℕ) (n : ℤ) (rest scale : ℕ → ℤ) (common b : ℤ) (move g : ℕ → ℤ) →
    ((i : ℕ) → i < m → pos 0 ≤ℤ rest i) → ((i : ℕ) → i < m → rest i *ℤ scale i ≡ common) →
    pos 0 ≤ℤ (common *ℤ square b *ℤ total m (λ i. scale i *ℤ square (move i)) +ℤ common *ℤ b *ℤ pos 2 *ℤ n *ℤ total m (λ i. move i *ℤ g i) +ℤ
    square n *ℤ total m (λ i. rest i *ℤ square (g i)))
drives m n rest scale common b move g h e =
    simp (total_add, total_scale) at
    (total_nonneg m (λ i. common *ℤ square b *ℤ (scale i *ℤ square (move i)) +ℤ common *ℤ b *ℤ pos 2 *ℤ n *ℤ (move i *ℤ g i) +ℤ square n *ℤ (rest i *ℤ square (g i)))
    (λ i l. rw (← (e i l)) (row_drive n (rest i) (scale i) b (move i) (g i) (h i l))))

entry_errors : (n : ℕ) (ab r s : ℤ) (alpha d x : ℕ → ℤ) → pos 0 ≤ℤ ab → pos 0 ≤ℤ r → pos 0 ≤ℤ s →
    ((j : ℕ) → j < n → IsWithin (ab *ℤ alpha j) (x j)) →
    pos 0 ≤ℤ (ab *ℤ square s *ℤ total n (λ j. square (alpha j)) +ℤ ab *ℤ square r *ℤ total n (λ j. square (d j)) +ℤ
    pos 2 *ℤ r *ℤ s *ℤ total n (λ j. x j *ℤ d j))
entry_errors n ab r s alpha d x p q o h =
    simp (total_add, total_scale) at
    (total_nonneg n (λ j. ab *ℤ square s *ℤ square (alpha j) +ℤ ab *ℤ square r *ℤ square (d j) +ℤ pos 2 *ℤ r *ℤ s *ℤ (x j *ℤ d j))
    (λ j l. entry_error ab r s (alpha j) (d j) (x j) p q o (h j l)))

-- a move times a number, squared
moves : (m : ℕ) (a : ℤ) (c y z : ℕ → ℤ) → total m (λ i. c i *ℤ square (a *ℤ (z i -ℤ y i))) ≡ square a *ℤ distance m c z y
moves m a c y z = total_same m _ _ (λ i l. apart (c i) (z i -ℤ y i)) ∙ total_scale m (square a) (λ i. c i *ℤ square (z i -ℤ y i))
  where
    apart : (c x : ℤ) → c *ℤ square (a *ℤ x) ≡ square a *ℤ (c *ℤ square x)
    apart c x = by_ring (a ∷ c ∷ x ∷ []) (search quotes depth 60 fits 20000) refl

row_gains : (n : ℕ) (b a top : ℤ) (s y v z w c beta : ℕ → ℤ) → pos 0 <ℤ b → ((i : ℕ) → i < n → pos 0 <ℤ s i) →
    InBox n top y → InBox n top w → InBox n top z →
    ((i : ℕ) → i < n → pos 2 *ℤ s i *ℤ z i ≡ clamped (pos 2 *ℤ s i *ℤ top) (pos 2 *ℤ s i *ℤ y i +ℤ v i)) →
    ((i : ℕ) → i < n → IsWithin (b *ℤ a *ℤ beta i) (b *ℤ v i -ℤ a *ℤ c i)) →
    pos 0 ≤ℤ (b *ℤ (distance n s w y -ℤ distance n s w z -ℤ distance n s z y) +ℤ
    b *ℤ a *ℤ top *ℤ total n beta -ℤ a *ℤ (dot n w c -ℤ dot n z c))
row_gains n b a top s y v z w c beta pb ps iy iw iz e h =
    simp (total_add, total_scale, total_neg) at
    (total_nonneg n (λ i. b *ℤ (s i *ℤ square (w i -ℤ y i) -ℤ s i *ℤ square (w i -ℤ z i) -ℤ s i *ℤ square (z i -ℤ y i)) +ℤ
    b *ℤ a *ℤ top *ℤ beta i -ℤ a *ℤ (w i *ℤ c i -ℤ z i *ℤ c i))
    (λ i l. row_gain b a (s i) top (y i) (v i) (z i) (w i) (c i) (beta i) pb (ps i l) (iy.low i l) (iy.high i l) (iw.low i l) (iw.high i l)
    (iz.low i l) (iz.high i l) (e i l) (h i l)))

-- the multipliers after a step lie in the box too
pub remains : (n : ℕ) (top : ℤ) (s y v z : ℕ → ℤ) → ((i : ℕ) → i < n → pos 0 <ℤ s i) → InBox n top y →
    ((i : ℕ) → i < n → pos 2 *ℤ s i *ℤ z i ≡ clamped (pos 2 *ℤ s i *ℤ top) (pos 2 *ℤ s i *ℤ y i +ℤ v i)) → InBox n top z
remains n top s y v z ps b e = stays n top (λ i. pos 2 *ℤ s i) y v z (λ i l. mul_pos_z (pos 2) (s i) (omega (arith, ints)) (ps i l)) b e

-- ---- two of the parts, at numbers alone
first_part : (a b s n moves cross own squares : ℤ) → pos 0 ≤ℤ a → pos 0 <ℤ b → pos 0 <ℤ s →
    pos 0 ≤ℤ (s *ℤ square b *ℤ moves +ℤ s *ℤ b *ℤ pos 2 *ℤ n *ℤ cross +ℤ square n *ℤ squares) →
    (pos 2 *ℤ a *ℤ squares) ≤ℤ (s *ℤ square b *ℤ own) →
    pos 0 ≤ℤ (pos 2 *ℤ a *ℤ b *ℤ moves +ℤ pos 4 *ℤ a *ℤ n *ℤ cross +ℤ b *ℤ square n *ℤ own)
first_part a b s n m x o q pa pb ps h k =
    cancel-le_z (s *ℤ b) (pos 0) _ (mul_pos_z s b ps pb)
    (le_by (add-le-add_z (mul-le-mul_left_z (pos 2 *ℤ a) (mul_nonneg_z (pos 2) a (omega (arith, ints)) pa) h) (mul-le-mul_left_z (square n) (square_nonneg_z n) k))
    (by_ring (a ∷ b ∷ s ∷ n ∷ m ∷ x ∷ o ∷ q ∷ []) (search quotes depth 60 fits 20000) refl))

second_part : (a b r s errors moved cross own : ℤ) → pos 0 ≤ℤ a → pos 0 ≤ℤ b → pos 0 ≤ℤ r → pos 0 <ℤ s →
    pos 0 ≤ℤ (a *ℤ b *ℤ square s *ℤ errors +ℤ a *ℤ b *ℤ square r *ℤ moved +ℤ pos 2 *ℤ r *ℤ s *ℤ cross) →
    (pos 2 *ℤ r *ℤ a *ℤ moved) ≤ℤ (s *ℤ own) →
    pos 0 ≤ℤ (pos 2 *ℤ a *ℤ b *ℤ s *ℤ errors +ℤ b *ℤ r *ℤ own +ℤ pos 4 *ℤ r *ℤ cross)
second_part a b r s e m x o pa pb pr ps h k =
    cancel-le_z s (pos 0) _ ps
    (le_by (add-le-add_z (mul-le-mul_left_z (pos 2) (omega (arith, ints)) h) (mul-le-mul_left_z (b *ℤ r) (mul_nonneg_z b r pb pr) k))
    (by_ring (a ∷ b ∷ r ∷ s ∷ e ∷ m ∷ x ∷ o ∷ []) (search quotes depth 60 fits 20000) refl))

-- the first part with the bound of its moves, over n: c is the square of the step's weight
shortened : (a b c n moved cross own : ℤ) → pos 0 ≤ℤ a → pos 0 ≤ℤ b → pos 0 <ℤ n → pos 0 ≤ℤ moved → c ≤ℤ (pos 2 *ℤ n) →
    pos 0 ≤ℤ (pos 2 *ℤ a *ℤ b *ℤ (c *ℤ moved) +ℤ pos 4 *ℤ a *ℤ n *ℤ cross +ℤ b *ℤ square n *ℤ own) →
    pos 0 ≤ℤ (pos 4 *ℤ a *ℤ b *ℤ moved +ℤ pos 4 *ℤ a *ℤ cross +ℤ b *ℤ n *ℤ own)
shortened a b c n d x o pa pb pn pd k h =
    cancel-le_z n (pos 0) _ pn
    (le_by (add-le-add_z h (mul-le-mul_left_z (pos 2 *ℤ (a *ℤ b) *ℤ d) (mul_nonneg_z (pos 2 *ℤ (a *ℤ b)) d (mul_nonneg_z (pos 2) (a *ℤ b) (omega (arith, ints)) (mul_nonneg_z a b pa pb)) pd) k))
    (by_ring (a ∷ b ∷ c ∷ n ∷ d ∷ x ∷ o ∷ []) (search quotes depth 60 fits 20000) refl))

-- ---- vectors
-- the gradient's error along a step
error_along : (n : ℕ) (a b : ℤ) (g m d : ℕ → ℤ) →
    total n (λ j. (b *ℤ g j +ℤ a *ℤ m j) *ℤ d j) ≡ b *ℤ dot n g d +ℤ a *ℤ dot n m d
error_along n a b g m d =
    total_same n _ _ (λ j l. apart (g j) (m j) (d j)) ∙ simp (total_add, total_scale)
  where
    apart : (x y c : ℤ) → (b *ℤ x +ℤ a *ℤ y) *ℤ c ≡ b *ℤ (x *ℤ c) +ℤ a *ℤ (y *ℤ c)
    apart x y c = by_ring (a ∷ b ∷ x ∷ y ∷ c ∷ []) (search quotes depth 60 fits 20000) refl

-- (s + a z)'(c + g), of which the part along g goes by s + a y and by the move
rows_to : (m : ℕ) (a : ℤ) (s y z c g t : ℕ → ℤ) → ((i : ℕ) → i < m → t i ≡ c i +ℤ g i) →
    dot m (λ i. s i +ℤ a *ℤ z i) t ≡ dot m s c +ℤ a *ℤ dot m z c +ℤ (dot m (λ i. s i +ℤ a *ℤ y i) g +ℤ dot m (λ i. a *ℤ (z i -ℤ y i)) g)
rows_to m a s y z c g t e =
    dot_same m (λ i. s i +ℤ a *ℤ z i) t (λ i. c i +ℤ g i) e ∙ dot_add_right m (λ i. s i +ℤ a *ℤ z i) c g ∙
    joined _ _ _ (dot_add m s (λ i. a *ℤ z i) c) (dot_scale m a z c)
    (total_same m _ _ (λ i l. apart (s i) (y i) (z i) (g i)) ∙ dot_add m (λ i. s i +ℤ a *ℤ y i) (λ i. a *ℤ (z i -ℤ y i)) g)
  where
    apart : (s y z g : ℤ) → (s +ℤ a *ℤ z) *ℤ g ≡ (s +ℤ a *ℤ y +ℤ a *ℤ (z -ℤ y)) *ℤ g
    apart s y z g = by_ring (a ∷ s ∷ y ∷ z ∷ g ∷ []) (search quotes depth 60 fits 20000) refl

    joined : (o r j : ℤ) {p q k : ℤ} → p ≡ o +ℤ q → q ≡ r → k ≡ j → p +ℤ k ≡ o +ℤ r +ℤ j
    joined o r j e f h = omega (arith, ints)

-- ---- the sum of all that a step has
-- its parts, at numbers alone: e is the step's weight, f that before it, n both
assembled : (a b r s e f n top vu vt along own tc sc wc zc xg cross missed moved wy wz alphas betas : ℤ) →
    pos 0 ≤ℤ a → pos 0 ≤ℤ r →
    vt ≡ vu +ℤ pos 2 *ℤ along +ℤ own → tc ≡ sc +ℤ e *ℤ zc +ℤ (xg +ℤ cross) → missed ≡ n *ℤ b *ℤ along +ℤ a *ℤ xg → n ≡ f +ℤ e →
    pos 0 ≤ℤ (pos 4 *ℤ a *ℤ b *ℤ moved +ℤ pos 4 *ℤ a *ℤ cross +ℤ b *ℤ n *ℤ own) →
    pos 0 ≤ℤ (pos 2 *ℤ a *ℤ (n *ℤ b) *ℤ s *ℤ alphas +ℤ n *ℤ b *ℤ r *ℤ own +ℤ pos 4 *ℤ r *ℤ missed) →
    pos 0 ≤ℤ (b *ℤ (wy -ℤ wz -ℤ moved) +ℤ b *ℤ e *ℤ top *ℤ betas -ℤ e *ℤ (wc -ℤ zc)) →
    (b *ℤ r *ℤ f *ℤ vu +ℤ pos 2 *ℤ a *ℤ r *ℤ sc +ℤ e *ℤ (b *ℤ r *ℤ pos 1 *ℤ vu +ℤ pos 2 *ℤ a *ℤ r *ℤ wc)) ≤ℤ
    (b *ℤ r *ℤ n *ℤ vt +ℤ pos 2 *ℤ a *ℤ r *ℤ tc +ℤ pos 2 *ℤ a *ℤ b *ℤ r *ℤ (wy -ℤ wz) +ℤ
    a *ℤ b *ℤ (s *ℤ n *ℤ alphas +ℤ pos 2 *ℤ r *ℤ top *ℤ e *ℤ betas))
assembled a b r s e f n top vu vt along own tc sc wc zc xg cross missed moved wy wz alphas betas pa pr h1 h2 h3 h4 k1 k2 k3 =
    cancel-le_z (pos 2) _ _ (omega (arith, ints)) (le_by
    (add-le-add_z (mul-le-mul_left_z r pr k1)
    (add-le-add_z k2
    (mul-le-mul_left_z (pos 4 *ℤ (a *ℤ r)) (mul_nonneg_z (pos 4) (a *ℤ r) (omega (arith, ints)) (mul_nonneg_z a r pa pr)) k3)))
    (rw (h1, h2, h3, h4) (by_ring (a ∷ b ∷ r ∷ s ∷ e ∷ f ∷ top ∷ vu ∷ along ∷ own ∷ sc ∷ wc ∷ zc ∷ xg ∷ cross ∷ moved ∷ wy ∷ wz ∷ alphas ∷ betas ∷ [])
    (search quotes depth 60 fits 20000) refl)))

-- the weights with the step's own are positive
sum_positive : (a b : ℤ) → pos 0 <ℤ a → pos 0 ≤ℤ b → pos 0 <ℤ (b +ℤ a)
sum_positive a b h k = omega (arith, ints, h, k)

pub step_law : FastStepLaw
step_law p scale rest common top q a b k pa nb small u s y v z alpha beta iy st w iw t =
    let c : pos 0 ≤ℤ p.cost_denominator = le_of_lt_z k.cost_denominator in
    let d_row : pos 0 ≤ℤ p.row_denominator = le_of_lt_z k.row_denominator in
    let r : pos 0 ≤ℤ p.rho = le_of_lt_z k.rho in
    let pn = sum_positive a b pa nb in
    let iz = remains p.rows top scale y v z k.scale_positive iy st.moved in
    let scaled : pos 0 ≤ℤ ((b +ℤ a) *ℤ p.row_denominator) = mul_nonneg_z (b +ℤ a) p.row_denominator (le_of_lt_z pn) d_row in
    assembled p.cost_denominator p.row_denominator p.rho p.rho_denominator a b (b +ℤ a) top (twice_cost p.cost q u) (twice_cost p.cost q t)
    (dot p.cost.entries (gradient p.cost q u) d) (bend p.cost d)
    (dot p.rows (λ i. s i +ℤ a *ℤ z i) (row_residual p q t)) (dot p.rows s (row_residual p q u)) (dot p.rows w (row_residual p q u)) (dot p.rows z (row_residual p q u))
    (dot p.rows point g) (dot p.rows way g) (total p.cost.entries (λ j. error j *ℤ d j))
    (distance p.rows scale z y) (distance p.rows scale w y) (distance p.rows scale w z)
    (total p.cost.entries (λ j. square (alpha j))) (total p.rows beta)
    c r
    (expands_to p.cost q k.symmetric u t)
    (rows_to p.rows a s y z (row_residual p q u) g (row_residual p q t) (λ i l. at_t i))
    (error_along p.cost.entries p.cost_denominator ((b +ℤ a) *ℤ p.row_denominator) (gradient p.cost q u) (coimage p.rows p.matrix point) d ∙
    ap (λ (o : ℤ). (b +ℤ a) *ℤ p.row_denominator *ℤ dot p.cost.entries (gradient p.cost q u) d +ℤ p.cost_denominator *ℤ o) (sym (dot_image p.rows p.cost.entries p.matrix point d)))
    refl
    (shortened p.cost_denominator p.row_denominator (square a) (b +ℤ a) (distance p.rows scale z y) (dot p.rows way g) (bend p.cost d) c d_row pn
    (total_nonneg p.rows _ (λ i l. mul_nonneg_z (scale i) (square (z i -ℤ y i)) (le_of_lt_z (k.scale_positive i l)) (square_nonneg_z (z i -ℤ y i)))) small
    (rw (← (moves p.rows a scale y z)) (first_part p.cost_denominator p.row_denominator common (b +ℤ a) (total p.rows (λ i. scale i *ℤ square (way i))) (dot p.rows way g) (bend p.cost d)
    (total p.rows (λ i. rest i *ℤ square (g i))) c k.row_denominator k.common_positive
    (drives p.rows (b +ℤ a) rest scale common p.row_denominator way g k.rest_nonneg k.split)
    (k.descent d))))
    (second_part p.cost_denominator ((b +ℤ a) *ℤ p.row_denominator) p.rho p.rho_denominator (total p.cost.entries (λ j. square (alpha j))) (total p.cost.entries (λ j. square (d j)))
    (total p.cost.entries (λ j. error j *ℤ d j)) (bend p.cost d)
    c scaled r k.rho_denominator
    (entry_errors p.cost.entries (p.cost_denominator *ℤ ((b +ℤ a) *ℤ p.row_denominator)) p.rho p.rho_denominator alpha d error
    (mul_nonneg_z p.cost_denominator ((b +ℤ a) *ℤ p.row_denominator) c scaled) r (le_of_lt_z k.rho_denominator) (λ j l. rw (turn (b +ℤ a) p.cost_denominator p.row_denominator) at st.gradient_error j l))
    (k.strong d))
    (row_gains p.rows p.row_denominator a top scale y v z w (row_residual p q u) beta k.row_denominator k.scale_positive iy iw iz st.moved st.row_error)
  where
    d : ℕ → ℤ
    d j = t j -ℤ u j

    g : ℕ → ℤ
    g i = image p.cost.entries p.matrix d i

    point : ℕ → ℤ
    point i = s i +ℤ a *ℤ y i

    way : ℕ → ℤ
    way i = a *ℤ (z i -ℤ y i)

    error : ℕ → ℤ
    error j = (b +ℤ a) *ℤ p.row_denominator *ℤ gradient p.cost q u j +ℤ p.cost_denominator *ℤ coimage p.rows p.matrix point j

    turn : (n c r : ℤ) → n *ℤ (c *ℤ r) ≡ c *ℤ (n *ℤ r)
    turn n c r = by_ring (n ∷ c ∷ r ∷ []) (search quotes depth 60 fits 20000) refl

    at_t : (i : ℕ) → row_residual p q t i ≡ row_residual p q u i +ℤ image p.cost.entries p.matrix d i
    at_t i = at_to (image p.cost.entries p.matrix u i) (q *ℤ p.offset i) (image p.cost.entries p.matrix d i) (image p.cost.entries p.matrix t i)
        (image_to p.cost.entries p.matrix u t i)
      where
        at_to : (a b c e : ℤ) → e ≡ a +ℤ c → e +ℤ b ≡ a +ℤ b +ℤ c
        at_to a b c e h = omega (arith, ints)
