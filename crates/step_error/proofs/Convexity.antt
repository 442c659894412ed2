-- The matrix that gains are solved with bends every list up.
use Rattle.std.proofs.Common.{◌≡◌, inl, inr, ℕ, ◌*◌, ◌^◌, ◌<◌, ◌≤◌, [], ◌∷◌, ℤ, pos, negsuc, ◌+ℤ◌, ◌-ℤ◌, ◌*ℤ◌, neg_ℤ, ◌≤ℤ◌, ◌<ℤ◌, arith, ap, ◌∙◌, refl}
use Rattle.std.proofs.lemmas.Int.{ints}
use Rattle.integer_algebra.specs.Sums.{total, dot, image, square}
use Rattle.integer_algebra.specs.Bounds.{absolute, IsWithin}
use Rattle.std.specs.Int.Signed.{≤ℤ_refl}
use Rattle.integer_algebra.proofs.OrderLaws.{le_by, le_trans_z, pos_positive, mul-le-mul_left_z, cancel-le_z, mul_pos_z, add-le-add_z, square_nonneg_z}
use Rattle.integer_algebra.proofs.SumLaws.{total_same, total_add, total_scale, total_mono, total_swap}
use Rattle.integer_algebra.proofs.SizeLaws.{total_amount}
use Rattle.integer_algebra.proofs.VectorLaws.{quadratic_scale}
use Rattle.integer_algebra.proofs.BoundLaws.{within_times}
use Rattle.integer_algebra.proofs.SquareLaws.{two_products_le}
use Rattle.integer_algebra.proofs.PowerLaws.{pow_positive, pow-two, four-pow}
use Rattle.integer_algebra.proofs.Quoting.{by_ring, quotes}
use Rattle.integer_algebra.proofs.AmountLaws.{amount_none}
use Rattle.std.proofs.Math.Nat.{one-le-mul}
use Rattle.qp_model.specs.problem.Design.{Design, entries}
use Rattle.qp_model.specs.problem.Cost.{cost_scale}
use Rattle.qp_model.specs.problem.Sound.{IsSound}
use Rattle.qp_model.specs.form.Condensed.{IsCondensed}
use Rattle.qp_model.specs.form.Condensing.{condensed_of}
use Rattle.qp_model.specs.form.Curvature.{curvature}
use Rattle.qp_model.specs.form.Quantities.{input_floor}
use Rattle.qp_model.specs.form.Form.{Form, IsFormFor, hessian_scale, hessian_radii}
use Rattle.qp_model.specs.form.Columns.{solve_matrix}
use Rattle.qp_model.proofs.CurvatureLaws as laws
use Rattle.step_error.proofs.Forms.{counted}

-- ---- the exact hessian
-- it bends a list up by at least 2 * (row_denominator * plant_denominator^stages)^2 * rho
exact_convex : (d : Design) (rho : ℕ) → IsSound d rho → IsCondensed d (condensed_of d) → (v : ℕ → ℤ) →
    (pos 2 *ℤ pos ((d.row_denominator * d.plant_denominator ^ d.stages) ^ 2) *ℤ pos rho *ℤ total (entries d) (λ j. square (v j))) ≤ℤ
    dot (entries d) v (image (entries d) (condensed_of d).hessian v)
exact_convex d rho sound condensed v =
    rw (pow-two (d.row_denominator * d.plant_denominator ^ d.stages))
    (closed (pos d.cost_denominator) (pos (2 ^ d.grid)) (pos d.row_denominator) (pos (d.plant_denominator ^ d.stages)) (pos rho)
    (total (entries d) (λ j. square (v j))) (curvature d v) (dot (entries d) v (image (entries d) (condensed_of d).hessian v))
    (pos (cost_scale d)) (pos (4 ^ d.grid))
    (ap (λ (n : ℕ). pos (d.cost_denominator * n)) (pow-two (d.row_denominator * 2 ^ d.grid * d.plant_denominator ^ d.stages)))
    (ap pos (four-pow d.grid)) (pos_positive d.cost_denominator sound.cost_denominator) (pos_positive (2 ^ d.grid) (pow_positive 2 d.grid (omega arith)))
    (laws.curvature_law d rho sound v) (laws.hessian_law d (condensed_of d) condensed v))
  where
    closed : (cost w row plant rho t curve form scale four : ℤ) → scale ≡ cost *ℤ (row *ℤ w *ℤ plant *ℤ (row *ℤ w *ℤ plant)) → four ≡ w *ℤ w →
        pos 0 <ℤ cost → pos 0 <ℤ w → (rho *ℤ scale *ℤ t) ≤ℤ (cost *ℤ curve) → pos 2 *ℤ curve ≡ four *ℤ form →
        (pos 2 *ℤ (row *ℤ plant *ℤ (row *ℤ plant)) *ℤ rho *ℤ t) ≤ℤ form
    closed cost w row plant rho t curve form scale four is four_is pc pw h k =
        let a = rw is at h in
        let b = rw four_is at k in
        cancel-le_z (cost *ℤ (w *ℤ w)) (pos 2 *ℤ (row *ℤ plant *ℤ (row *ℤ plant)) *ℤ rho *ℤ t) form (mul_pos_z cost (w *ℤ w) pc (mul_pos_z w w pw pw))
        (le_by (add-le-add_z a (add-le-add_z a (same_le b))) (by_ring (cost ∷ w ∷ row ∷ plant ∷ rho ∷ t ∷ curve ∷ form ∷ []) (search quotes depth 90 fits 20000) refl))
      where
        same_le : {a b : ℤ} → a ≡ b → (cost *ℤ a) ≤ℤ (cost *ℤ b)
        same_le e = rw e (≤ℤ_refl _)

-- ---- a symmetric matrix
-- its form is at most the squares, each times the absolute sum of its row
pub form_bounded : (n : ℕ) (m : ℕ → ℕ → ℤ) (v : ℕ → ℤ) → ((i j : ℕ) → i < n → j < n → m i j ≡ m j i) →
    dot n v (image n m v) ≤ℤ total n (λ i. square (v i) *ℤ total n (λ j. absolute (m i j)))
form_bounded n m v symmetric =
    halved (dot n v (image n m v)) (total n (λ i. square (v i) *ℤ total n (λ j. absolute (m i j))))
    (rw (← doubled) (rw (← parts) (total_mono n _ _ (λ i l. total_mono n _ _ (λ j o. each (m i j) (v i) (v j))))))
  where
    halved : (a b : ℤ) → (pos 2 *ℤ a) ≤ℤ (b +ℤ b) → a ≤ℤ b
    halved a b h = omega (arith, ints, h)

    turn : (a x y : ℤ) → pos 2 *ℤ x *ℤ y *ℤ a ≡ (pos 2 *ℤ x) *ℤ (a *ℤ y)
    turn a x y = by_ring (a ∷ x ∷ y ∷ []) (search quotes depth 60 fits 20000) refl

    outward : (x b : ℤ) → pos 2 *ℤ x *ℤ b ≡ pos 2 *ℤ (x *ℤ b)
    outward x b = by_ring (x ∷ b ∷ []) (search quotes depth 60 fits 20000) refl

    doubled : total n (λ i. total n (λ j. pos 2 *ℤ v i *ℤ v j *ℤ m i j)) ≡ pos 2 *ℤ dot n v (image n m v)
    doubled = total_same n _ _ (λ i l. total_same n _ _ (λ j o. turn (m i j) (v i) (v j)) ∙ total_scale n (pos 2 *ℤ v i) (λ j. m i j *ℤ v j) ∙ outward (v i) (image n m v i))
        ∙ total_scale n (pos 2) (λ i. v i *ℤ image n m v i)

    -- 2 x y a is at most (x^2 + y^2) |a|
    each : (a x y : ℤ) → (pos 2 *ℤ x *ℤ y *ℤ a) ≤ℤ ((square x +ℤ square y) *ℤ absolute a)
    each a x y = (within_times (square x +ℤ square y) (pos 2 *ℤ x *ℤ y) a (record { below = two_products_le x y; above = above })).below
      where
        above : neg_ℤ (square x +ℤ square y) ≤ℤ (pos 2 *ℤ x *ℤ y)
        above = le_by (square_nonneg_z (x +ℤ y)) (by_ring (x ∷ y ∷ []) (search quotes depth 60 fits 20000) refl)

    apart : (a x y : ℤ) → (x +ℤ y) *ℤ a ≡ x *ℤ a +ℤ a *ℤ y
    apart a x y = by_ring (a ∷ x ∷ y ∷ []) (search quotes depth 60 fits 20000) refl

    swapped : (a x : ℤ) → a *ℤ x ≡ x *ℤ a
    swapped a x = by_ring (a ∷ x ∷ []) (search quotes depth 60 fits 20000) refl

    first : total n (λ i. total n (λ j. square (v i) *ℤ absolute (m i j))) ≡ total n (λ i. square (v i) *ℤ total n (λ j. absolute (m i j)))
    first = total_same n _ _ (λ i l. total_scale n (square (v i)) (λ j. absolute (m i j)))

    second : total n (λ i. total n (λ j. absolute (m i j) *ℤ square (v j))) ≡ total n (λ i. square (v i) *ℤ total n (λ j. absolute (m i j)))
    second = total_swap n n (λ i j. absolute (m i j) *ℤ square (v j))
        ∙ total_same n _ _ (λ j l. total_same n _ _ (λ i o. ap (λ (z : ℤ). absolute z *ℤ square (v j)) (symmetric i j o l) ∙ swapped (absolute (m j i)) (square (v j)))
        ∙ total_scale n (square (v j)) (λ i. absolute (m j i)))

    parts : total n (λ i. total n (λ j. (square (v i) +ℤ square (v j)) *ℤ absolute (m i j))) ≡
        total n (λ i. square (v i) *ℤ total n (λ j. absolute (m i j))) +ℤ total n (λ i. square (v i) *ℤ total n (λ j. absolute (m i j)))
    parts = total_same n _ _ (λ i l. total_same n _ _ (λ j o. apart (absolute (m i j)) (square (v i)) (square (v j)))
        ∙ total_add n (λ j. square (v i) *ℤ absolute (m i j)) (λ j. absolute (m i j) *ℤ square (v j)))
        ∙ total_add n (λ i. total n (λ j. square (v i) *ℤ absolute (m i j))) (λ i. total n (λ j. absolute (m i j) *ℤ square (v j)))
        ∙ joined _ _ _ _ first second
      where
        joined : (a b a' b' : ℤ) → a ≡ a' → b ≡ b' → a +ℤ b ≡ a' +ℤ b'
        joined a b a' b' h k = rw (h, k) refl

-- where the absolute sums of the rows are at most b, so is it to the squares
form_within : (n : ℕ) (m : ℕ → ℕ → ℤ) (v : ℕ → ℤ) (b : ℤ) → ((i j : ℕ) → i < n → j < n → m i j ≡ m j i) →
    ((i : ℕ) → i < n → total n (λ j. absolute (m i j)) ≤ℤ b) → dot n v (image n m v) ≤ℤ (b *ℤ total n (λ i. square (v i)))
form_within n m v b symmetric rows = le_trans_z (form_bounded n m v symmetric)
    (rw (← (total_scale n b (λ i. square (v i)))) (total_mono n _ _ (λ i l. le_by (mul-le-mul_left_z (square (v i)) (square_nonneg_z (v i)) (rows i l)) (turn (square (v i)) b (total n (λ j. absolute (m i j)))))))
  where
    turn : (s b t : ℤ) → b *ℤ s +ℤ s *ℤ t ≡ s *ℤ t +ℤ s *ℤ b
    turn s b t = by_ring (s ∷ b ∷ t ∷ []) (search quotes depth 60 fits 20000) refl

-- ---- the midpoints
module _ (d : Design) (h : Form) (sound : IsSound d (input_floor d)) (condensed : IsCondensed d (condensed_of d)) (form : IsFormFor d (counted d h)) where
  -- what the midpoints miss, over both scales
  abbrev missing : ℕ → ℕ → ℤ
  missing i j = pos h.hessian_scale *ℤ (condensed_of d).hessian i j -ℤ pos (hessian_scale d) *ℤ h.numbers.hessian i j

  missing_symmetric : (i j : ℕ) → i < entries d → j < entries d → missing i j ≡ missing j i
  missing_symmetric i j l o = let e = condensed.symmetric i j l o in let k = form.encloses.symmetric i j l o in rw (e, k) refl

  missing_rows : (radius : ℕ) → ((i : ℕ) → i < entries d → hessian_radii (counted d h) i ≤ radius) → (i : ℕ) → i < entries d →
      total (entries d) (λ j. absolute (missing i j)) ≤ℤ (pos (hessian_scale d) *ℤ pos radius)
  missing_rows radius most i l =
      le_trans_z (total_mono (entries d) (λ j. absolute (missing i j)) (λ j. pos (hessian_scale d) *ℤ pos (h.hessian_radius i j)) (λ j o. size_of (missing i j) (hessian_scale d * h.hessian_radius i j) (form.encloses.hessian i j l o)))
      (rw (total_scale (entries d) (pos (hessian_scale d)) (λ j. pos (h.hessian_radius i j)), total_amount (entries d) (h.hessian_radius i))
      (mul-le-mul_left_z (pos (hessian_scale d)) (omega (arith, ints)) (le_of_nat (most i l))))
    where
      le_of_nat : {m n : ℕ} → m ≤ n → pos m ≤ℤ pos n
      le_of_nat {m} {n} k = omega (arith, ints, k)

      size_of : (z : ℤ) (n : ℕ) → IsWithin (pos n) z → absolute z ≤ℤ pos n
      size_of z n k = omega (arith, ints, k.below, k.above)

  missing_form : (v : ℕ → ℤ) → dot (entries d) v (image (entries d) missing v) ≡
      pos h.hessian_scale *ℤ dot (entries d) v (image (entries d) (condensed_of d).hessian v) +ℤ
      (negsuc 0 *ℤ pos (hessian_scale d)) *ℤ dot (entries d) v (image (entries d) h.numbers.hessian v)
  missing_form v =
      total_same (entries d) _ _ (λ i l. ap (λ (z : ℤ). v i *ℤ z) (inner i) ∙ apart (v i) (pos h.hessian_scale) (negsuc 0 *ℤ pos (hessian_scale d)) (image (entries d) (condensed_of d).hessian v i) (image (entries d) h.numbers.hessian v i))
      ∙ parts (entries d) (pos h.hessian_scale) (negsuc 0 *ℤ pos (hessian_scale d)) (λ i. v i *ℤ image (entries d) (condensed_of d).hessian v i) (λ i. v i *ℤ image (entries d) h.numbers.hessian v i)
    where
      turn : (a b x y v : ℤ) → (a *ℤ x -ℤ b *ℤ y) *ℤ v ≡ a *ℤ (x *ℤ v) +ℤ (negsuc 0 *ℤ b) *ℤ (y *ℤ v)
      turn a b x y v = by_ring (a ∷ b ∷ x ∷ y ∷ v ∷ []) (search quotes depth 60 fits 20000) refl

      apart : (v a b x y : ℤ) → v *ℤ (a *ℤ x +ℤ b *ℤ y) ≡ a *ℤ (v *ℤ x) +ℤ b *ℤ (v *ℤ y)
      apart v a b x y = by_ring (v ∷ a ∷ b ∷ x ∷ y ∷ []) (search quotes depth 60 fits 20000) refl

      parts : (n : ℕ) (a b : ℤ) (x y : ℕ → ℤ) → total n (λ i. a *ℤ x i +ℤ b *ℤ y i) ≡ a *ℤ total n x +ℤ b *ℤ total n y
      parts n a b x y = simp (total_add, total_scale)

      inner : (i : ℕ) → image (entries d) missing v i ≡ pos h.hessian_scale *ℤ image (entries d) (condensed_of d).hessian v i +ℤ (negsuc 0 *ℤ pos (hessian_scale d)) *ℤ image (entries d) h.numbers.hessian v i
      inner i = total_same (entries d) _ _ (λ j l. turn (pos h.hessian_scale) (pos (hessian_scale d)) ((condensed_of d).hessian i j) (h.numbers.hessian i j) (v j))
          ∙ parts (entries d) (pos h.hessian_scale) (negsuc 0 *ℤ pos (hessian_scale d)) (λ j. (condensed_of d).hessian i j *ℤ v j) (λ j. h.numbers.hessian i j *ℤ v j)

  -- with a radius, by numbers alone: cost is the weights' denominator, square that of the rows
  with_radius : (radius : ℕ) → ((i : ℕ) → i < entries d → hessian_radii (counted d h) i ≤ radius) → (v : ℕ → ℤ) →
      ((pos 2 *ℤ pos h.hessian_scale *ℤ pos (input_floor d) -ℤ pos d.cost_denominator *ℤ pos radius) *ℤ total (entries d) (λ j. square (v j))) ≤ℤ
      (pos d.cost_denominator *ℤ dot (entries d) v (image (entries d) h.numbers.hessian v))
  with_radius radius most v =
      closed (pos d.cost_denominator) (pos ((d.row_denominator * d.plant_denominator ^ d.stages) ^ 2)) (pos h.hessian_scale) (pos (input_floor d)) (pos radius)
      (total (entries d) (λ j. square (v j))) (dot (entries d) v (image (entries d) h.numbers.hessian v)) (dot (entries d) v (image (entries d) (condensed_of d).hessian v))
      (pos_positive ((d.row_denominator * d.plant_denominator ^ d.stages) ^ 2) square_positive) (omega (arith, ints)) (exact_convex d (input_floor d) sound condensed v)
      (missing_form v) (form_within (entries d) missing v (pos (hessian_scale d) *ℤ pos radius) missing_symmetric (missing_rows radius most))
    where
      square_positive : 1 ≤ (d.row_denominator * d.plant_denominator ^ d.stages) ^ 2
      square_positive = pow_positive (d.row_denominator * d.plant_denominator ^ d.stages) 2 (one-le-mul sound.row_denominator (pow_positive d.plant_denominator d.stages sound.plant_denominator))

      closed : (cost k a rho r t form exact : ℤ) {miss : ℤ} → pos 0 <ℤ k → pos 0 ≤ℤ a → (pos 2 *ℤ k *ℤ rho *ℤ t) ≤ℤ exact →
          miss ≡ a *ℤ exact +ℤ (negsuc 0 *ℤ (cost *ℤ k)) *ℤ form → miss ≤ℤ ((cost *ℤ k) *ℤ r *ℤ t) →
          ((pos 2 *ℤ a *ℤ rho -ℤ cost *ℤ r) *ℤ t) ≤ℤ (cost *ℤ form)
      closed cost k a rho r t form exact pk pa low e high =
          cancel-le_z k ((pos 2 *ℤ a *ℤ rho -ℤ cost *ℤ r) *ℤ t) (cost *ℤ form) pk
          (le_by (add-le-add_z (mul-le-mul_left_z a pa low) (rw e at high))
          (by_ring (cost ∷ k ∷ a ∷ rho ∷ r ∷ t ∷ form ∷ exact ∷ []) (search quotes depth 90 fits 20000) refl))

  -- the midpoints bend a list up by at least 2 * rho over the weights' denominator, or half of it where they have radii
  pub form_convex : (v : ℕ → ℤ) →
      (pos 2 *ℤ pos h.hessian_scale *ℤ pos (input_floor d) *ℤ total (entries d) (λ j. square (v j))) ≤ℤ
      (pos h.spread *ℤ pos d.cost_denominator *ℤ dot (entries d) v (image (entries d) h.numbers.hessian v))
  form_convex v = elim form.class [
    | inl e ↦ none (pos d.cost_denominator) (pos h.hessian_scale) (pos (input_floor d)) (total (entries d) (λ j. square (v j))) (dot (entries d) v (image (entries d) h.numbers.hessian v))
        (ap pos e.1) (with_radius 0 (λ i l. (let z = amount_none (entries d) (h.hessian_radius i) (λ j o. e.0.hessian i j l o) in omega (arith, z))) v)
    | inr e ↦ fine (pos d.cost_denominator) (pos (d.row_denominator ^ 2 * 2 ^ 40)) (pos h.hessian_scale) (pos (input_floor d)) (total (entries d) (λ j. square (v j)))
        (dot (entries d) v (image (entries d) h.numbers.hessian v))
        (ap pos (e.0.hessian_scale ∙ outward d.cost_denominator (d.row_denominator ^ 2))) (ap pos e.1)
        (with_radius (d.row_denominator ^ 2 * 2 ^ 40 * input_floor d) (λ i l. e.0.narrow i l) v)
  ]
    where
      outward : (a b : ℕ) → a * b * 2 ^ 40 ≡ a * (b * 2 ^ 40)
      outward a b = omega arith

      none : (cost a rho t form : ℤ) {s : ℤ} → s ≡ pos 1 → ((pos 2 *ℤ a *ℤ rho -ℤ cost *ℤ pos 0) *ℤ t) ≤ℤ (cost *ℤ form) → (pos 2 *ℤ a *ℤ rho *ℤ t) ≤ℤ (s *ℤ cost *ℤ form)
      none cost a rho t form e k = rw e (le_by k (by_ring (cost ∷ a ∷ rho ∷ t ∷ form ∷ []) (search quotes depth 60 fits 20000) refl))

      fine : (cost p a rho t form : ℤ) {s : ℤ} → a ≡ cost *ℤ p → s ≡ pos 2 → ((pos 2 *ℤ a *ℤ rho -ℤ cost *ℤ (p *ℤ rho)) *ℤ t) ≤ℤ (cost *ℤ form) →
          (pos 2 *ℤ a *ℤ rho *ℤ t) ≤ℤ (s *ℤ cost *ℤ form)
      fine cost p a rho t form is e k = rw (e, is) (le_by (mul-le-mul_left_z (pos 2) (omega (arith, ints)) (rw is at k))
          (by_ring (cost ∷ p ∷ rho ∷ t ∷ form ∷ []) (search quotes depth 60 fits 20000) refl))

  -- the same of the matrix that gains are solved with
  pub solve_matrix_convex : (v : ℕ → ℤ) →
      (pos 2 *ℤ pos d.limit_denominator *ℤ pos h.hessian_scale *ℤ pos (input_floor d) *ℤ total (entries d) (λ j. square (v j))) ≤ℤ
      (pos h.spread *ℤ pos d.cost_denominator *ℤ dot (entries d) v (image (entries d) (solve_matrix h) v))
  solve_matrix_convex v =
      closed (pos d.limit_denominator) (pos h.hessian_scale) (pos (input_floor d)) (total (entries d) (λ j. square (v j))) (pos h.spread) (pos d.cost_denominator)
      (dot (entries d) v (image (entries d) h.numbers.hessian v)) (omega (arith, ints))
      (quadratic_scale (entries d) h.matrix_factor h.numbers.hessian v ∙ ap (λ (z : ℤ). z *ℤ dot (entries d) v (image (entries d) h.numbers.hessian v)) form.matrix_factor)
      (form_convex v)
    where
      closed : (m a rho t s cost form : ℤ) {matrix : ℤ} → pos 0 ≤ℤ m → matrix ≡ m *ℤ form → (pos 2 *ℤ a *ℤ rho *ℤ t) ≤ℤ (s *ℤ cost *ℤ form) →
          (pos 2 *ℤ m *ℤ a *ℤ rho *ℤ t) ≤ℤ (s *ℤ cost *ℤ matrix)
      closed m a rho t s cost form pm e k = rw e (le_by (mul-le-mul_left_z m pm k) (by_ring (m ∷ a ∷ rho ∷ t ∷ s ∷ cost ∷ form ∷ []) (search quotes depth 60 fits 20000) refl))
