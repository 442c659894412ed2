-- By how much the hessian in enclosures bends a list up.
use Rattle.std.proofs.Common.{◌≡◌, ℕ, ◌*◌, ◌^◌, ◌<◌, ◌≤◌, [], ◌∷◌, ℤ, pos, ◌+ℤ◌, ◌-ℤ◌, ◌*ℤ◌, ◌≤ℤ◌, ◌<ℤ◌, neg_ℤ, unsigned_abs, arith, ◌∙◌, refl}
use Rattle.std.proofs.lemmas.Int.{ints}
use Rattle.std.proofs.Math.Nat.{mul-le-mul_left, one-le-mul}
use Rattle.integer_algebra.specs.Bounds.{IsWithin}
use Rattle.integer_algebra.specs.Sizes.{size}
use Rattle.integer_algebra.specs.Sums.{total, dot, image, square}
use Rattle.integer_algebra.proofs.OrderLaws.{pos_positive, le_by, mul-le-mul_left_z, cancel-le_z, add-le-add_z}
use Rattle.integer_algebra.proofs.AmountLaws.{amount_mono, amount_scale}
use Rattle.integer_algebra.proofs.PowerLaws.{pow_positive}
use Rattle.integer_algebra.proofs.VectorLaws.{dot_same, dot_sub, dot_add_right, dot_neg_right, quadratic_scale}
use Rattle.integer_algebra.proofs.Quoting.{by_ring, quotes}
use Rattle.qp_model.specs.problem.Design.{Design, entries}
use Rattle.qp_model.specs.problem.Sound.{IsSound}
use Rattle.qp_model.specs.form.Condensing.{condensed_of}
use Rattle.qp_model.specs.form.Form as held
use Rattle.qp_model.specs.form.FineForm.{fine_hessian, hessian_radius, hessian_row_radius}
use Rattle.qp_model.specs.form.Quantities.{input_floor}
use Rattle.qp_model.proofs.CostLaws.{condensing}
use Rattle.qp_model.proofs.SizeFacts.{greatest_term}
use Rattle.condensed_form.specs.Form.{response_scale}
use Rattle.condensed_form.proofs.FormLaws.{curved_at_least}
use Rattle.scaled_condense.proofs.Laws.{fine_law}
use Rattle.scaled_condense.proofs.RadiusLaws.{radius_law}

-- ---- a matrix near another
-- a form of a difference of multiples
form_difference : (n : ℕ) (x y : ℤ) (a b : ℕ → ℕ → ℤ) (u : ℕ → ℤ) →
    dot n u (image n (λ i j. x *ℤ a i j -ℤ y *ℤ b i j) u) ≡ x *ℤ dot n u (image n a u) -ℤ y *ℤ dot n u (image n b u)
form_difference n x y a b u = dot_same n u _ _ (λ i l. dot_sub n (λ j. x *ℤ a i j) (λ j. y *ℤ b i j) u) ∙
    dot_add_right n u (image n (λ i j. x *ℤ a i j) u) (λ i. neg_ℤ (image n (λ i j. y *ℤ b i j) u i)) ∙
    joined (quadratic_scale n x a u) (dot_neg_right n u (image n (λ i j. y *ℤ b i j) u)) (quadratic_scale n y b u)
  where
    joined : {p q r x y : ℤ} → p ≡ x → q ≡ neg_ℤ r → r ≡ y → p +ℤ q ≡ x -ℤ y
    joined {p} {q} {r} {x} {y} e f g = omega (arith, ints, e, f, g)

-- ---- the hessian in enclosures
module _ (d : Design) (sound : IsSound d (input_floor d)) where
  -- what the exact one is over, and what this one is
  abbrev exact_scale : ℕ
  exact_scale = held.hessian_scale d

  abbrev fine_scale : ℕ
  fine_scale = d.cost_denominator * d.row_denominator ^ 2 * 2 ^ 40

  abbrev mid : ℕ → ℕ → ℤ
  mid i j = (fine_hessian d i j).mid

  abbrev error : ℕ → ℕ → ℤ
  error i j = pos exact_scale *ℤ mid i j -ℤ pos fine_scale *ℤ (condensed_of d).hessian i j

  error_turned : (i j : ℕ) → i < entries d → j < entries d → error i j ≡ error j i
  error_turned i j l m = joined (pos exact_scale) (pos fine_scale) ((fine_law d (input_floor d) sound).symmetric i j l m) ((condensing d sound.inputs).symmetric i j l m)
    where
      joined : (x y : ℤ) {a b e f : ℤ} → a ≡ b → e ≡ f → x *ℤ a -ℤ y *ℤ e ≡ x *ℤ b -ℤ y *ℤ f
      joined x y h k = rw (h, k) refl

  error_small : (i : ℕ) → i < entries d → size (entries d) (error i) ≤ exact_scale * hessian_radius d
  error_small i l = chained exact_scale (amount_mono (entries d) _ _ (λ j m. near (pos fine_scale *ℤ (condensed_of d).hessian i j) (pos exact_scale *ℤ mid i j) ((fine_law d (input_floor d) sound).hessian i j l m)))
      (amount_scale (entries d) exact_scale (λ j. unsigned_abs (fine_hessian d i j).rad)) (greatest_term i (entries d) (hessian_row_radius d) l)
    where
      near : {b : ℕ} (x y : ℤ) → IsWithin (pos b) (x -ℤ y) → unsigned_abs (y -ℤ x) ≤ b
      near {b} x y w = omega (arith, ints, w.below, w.above)

      chained : {a b r t : ℕ} (s : ℕ) → a ≤ b → b ≡ s * r → r ≤ t → a ≤ s * t
      chained s h e k = omega (arith, h, e, mul-le-mul_left s k)

  pub fine_bent : (u : ℕ → ℤ) →
      ((pos (2 * d.row_denominator ^ 2 * 2 ^ 40 * input_floor d) -ℤ pos (hessian_radius d)) *ℤ total (entries d) (λ j. square (u j))) ≤ℤ dot (entries d) u (image (entries d) mid u)
  fine_bent u = closed d.cost_denominator (response_scale d ^ 2) (d.row_denominator ^ 2) (2 ^ 40) (input_floor d) (hessian_radius d) (total (entries d) (λ j. square (u j)))
      (dot (entries d) u (image (entries d) mid u)) (dot (entries d) u (image (entries d) (condensed_of d).hessian u)) _
      sound.cost_denominator (pow_positive (response_scale d) 2 (one-le-mul sound.row_denominator (pow_positive d.plant_denominator d.stages sound.plant_denominator)))
      (form_difference (entries d) (pos exact_scale) (pos fine_scale) mid (condensed_of d).hessian u)
      (radius_law (entries d) (exact_scale * hessian_radius d) error error_turned error_small u)
      (curved_at_least d (condensed_of d) (input_floor d) sound (condensing d sound.inputs) u)
    where
      -- all in integers
      plain : (w s r m rho t q f x : ℤ) → pos 0 <ℤ (w *ℤ s) → pos 0 ≤ℤ (w *ℤ r *ℤ m) → pos 0 ≤ℤ (w *ℤ s *ℤ f -ℤ w *ℤ r *ℤ m *ℤ x +ℤ w *ℤ s *ℤ t *ℤ q) →
          (pos 2 *ℤ (rho *ℤ s) *ℤ q) ≤ℤ x → ((pos 2 *ℤ r *ℤ m *ℤ rho -ℤ t) *ℤ q) ≤ℤ f
      plain w s r m rho t q f x ps pr h k = cancel-le_z (w *ℤ s) _ f ps
          (le_by (add-le-add_z h (mul-le-mul_left_z (w *ℤ r *ℤ m) pr k)) (by_ring (w ∷ s ∷ r ∷ m ∷ rho ∷ t ∷ q ∷ f ∷ x ∷ []) (search quotes depth 60 fits 20000) refl))

      closed : (w s r m rho t : ℕ) (q f x e : ℤ) → 1 ≤ w → 1 ≤ s → e ≡ pos (w * s) *ℤ f -ℤ pos (w * r * m) *ℤ x → pos 0 ≤ℤ (e +ℤ pos (w * s * t) *ℤ q) →
          (pos 2 *ℤ (pos rho *ℤ pos s) *ℤ q) ≤ℤ x → ((pos (2 * r * m * rho) -ℤ pos t) *ℤ q) ≤ℤ f
      closed w s r m rho t q f x e hw hs g h k = plain (pos w) (pos s) (pos r) (pos m) (pos rho) (pos t) q f x (pos_positive (w * s) (one-le-mul hw hs)) (natural (w * r * m)) (rw g at h) k
        where
          natural : (n : ℕ) → pos 0 ≤ℤ pos n
          natural n = omega (arith, ints)
