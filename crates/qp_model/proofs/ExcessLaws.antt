-- The excess of a policy is one: what the enclosures of the gradients give of the costs.
use Rattle.std.proofs.Common.{◌≡◌, ℕ, zero, suc, ◌-◌, ◌*◌, ◌^◌, ◌<◌, ◌≤◌, lit<, [], ◌∷◌, ℤ, pos, negsuc, ◌+ℤ◌, ◌-ℤ◌, ◌*ℤ◌, ◌≤ℤ◌, ◌<ℤ◌, neg_ℤ, unsigned_abs, arith, refl, ap, sym, subst}
use Rattle.std.proofs.lemmas.Int.{ints}
use Rattle.std.proofs.lemmas.Nat.{pow_pos}
use Rattle.integer_algebra.specs.Bounds.{absolute, IsWithin}
use Rattle.integer_algebra.specs.Division.{ceil_of}
use Rattle.integer_algebra.specs.Sums.{total, dot, square}
use Rattle.integer_algebra.proofs.DivisionLaws.{ceil_of_is}
use Rattle.integer_algebra.proofs.OrderLaws.{pos_positive, add-le-add_z, cancel-le_z, le_by, le_trans_z, mul_nonneg_z, mul_pos_z, mul-le-mul_left_z, square_nonneg_z}
use Rattle.std.proofs.Math.Nat.{one-le-mul}
use Rattle.integer_algebra.proofs.PowerLaws.{pow-two, four-pow, pow_positive}
use Rattle.integer_algebra.proofs.RingLaws.{same_by}
use Rattle.integer_algebra.proofs.SumLaws.{total_scale, total_scale_right, total_mono}
use Rattle.integer_algebra.proofs.VectorLaws.{dot_comm}
use Rattle.integer_algebra.proofs.Quoting.{by_ring, quotes}
use Rattle.frac_scaled.specs.Enclosures.{Enclosure, Encloses, magnitude, enclosed}
use Rattle.frac_scaled.proofs.EnclosureLaws.{within_encloses, encloses_within, fraction_law, enclosed_law, sum_law, product_law, divided_law}
use Rattle.mat_int.proofs.EnclosureLaws.{combined_law}
use Rattle.qp_model.specs.problem.Design.{Design, entries}
use Rattle.qp_model.specs.problem.Sound.{IsSound}
use Rattle.qp_model.specs.problem.Box.{corner}
use Rattle.qp_model.specs.problem.Cost.{cost, cost_scale}
use Rattle.qp_model.specs.form.Condensed.{Condensed, IsCondensed, gradient_at}
use Rattle.qp_model.specs.form.Condensing.{condensed_of}
use Rattle.qp_model.specs.form.Form.{Form, hessian_scale, EnclosesDesign, IsFormFor}
use Rattle.qp_model.specs.problem.Policy.{Plans, IsPolicyFor, corner_denominator, corner_plan}
use Rattle.qp_model.specs.form.Quantities.{input_floor}
use Rattle.qp_model.specs.bounds.Excess.{IsNearBest, brought, hessian_at, linear_at, constant_at, of_plan, of_state, gradient_enclosure, step_enclosure, slope_enclosure, rise, steepness, pull}
use Rattle.qp_model.specs.bounds.Excess.{excess_at, corner_excess, at_least_none, excess_of, ExcessLaw}
use Rattle.qp_model.proofs.CostLaws.{condensing}
use Rattle.qp_model.proofs.FormLaws.{exact_form_sound}
use Rattle.qp_model.proofs.SizeFacts.{greatest_term}
use Rattle.qp_model.proofs.DifferenceLaws.{difference_law, floor_law}

-- ---- the form's numbers
-- a midpoint over s is within r of a number over t
brought_encloses : (s t : ℕ) (e v : ℤ) (r : ℕ) → 1 ≤ s → 1 ≤ t → IsWithin (pos (t * r)) (pos s *ℤ e -ℤ pos t *ℤ v) → Encloses (brought s v r) e (pos t)
brought_encloses s t e v r ps pt w =
    fraction_law (brought s v r) (pos s *ℤ e) (pos t *ℤ pos s) e (pos t) (at_least t s pt ps) (omega (arith, ints))
    (by_ring (pos s ∷ pos t ∷ e ∷ []) (search quotes depth 60 fits 20000) refl)
    (divided_law (record { mid = pos (2 ^ 40) *ℤ v; rad = pos (2 ^ 40 * r) }) s (pos s *ℤ e) (pos t) ps (omega (arith, ints))
    (within_encloses (record { mid = pos (2 ^ 40) *ℤ v; rad = pos (2 ^ 40 * r) }) (pos s *ℤ e) (pos t)
    (scaled (pos (2 ^ 40)) (pos s) (pos t) e v (pos r) (omega (arith, ints)) w)))
  where
    at_least : (a b : ℕ) → 1 ≤ a → 1 ≤ b → pos 1 ≤ℤ (pos a *ℤ pos b)
    at_least a b h k = let m = mul_pos_z (pos a) (pos b) (omega (arith, ints)) (omega (arith, ints)) in omega (arith, ints, m)

    scaled : (f s t e v r : ℤ) → pos 0 ≤ℤ f → IsWithin (t *ℤ r) (s *ℤ e -ℤ t *ℤ v) → IsWithin ((f *ℤ r) *ℤ t) (f *ℤ (s *ℤ e) -ℤ (f *ℤ v) *ℤ t)
    scaled f s t e v r p h = record {
      below = le_by (mul-le-mul_left_z f p h.below) (by_ring (f ∷ s ∷ t ∷ e ∷ v ∷ r ∷ []) (search quotes depth 60 fits 20000) refl);
      above = le_by (mul-le-mul_left_z f p h.above) (by_ring (f ∷ s ∷ t ∷ e ∷ v ∷ r ∷ []) (search quotes depth 60 fits 20000) refl);
    }

-- ---- the gradient
-- what the costs are over, by what the condensed numbers are over
scale_by : (d : Design) → pos (cost_scale d) ≡ pos (hessian_scale d) *ℤ square (pos (2 ^ d.grid))
scale_by d = moved d.cost_denominator d.row_denominator (2 ^ d.grid) (d.plant_denominator ^ d.stages)
  where
    moved : (w r g a : ℕ) → pos (w * (r * g * a) ^ 2) ≡ pos (w * (r * a) ^ 2) *ℤ square (pos g)
    moved w r g a = rw (pow-two (r * g * a), pow-two (r * a)) (let e : w * (r * g * a * (r * g * a)) ≡ w * (r * a * (r * a)) * (g * g) = omega arith in omega (arith, ints, e))

-- numbers alone
same_gradient : (s h g f q a a' b b' k : ℤ) → s ≡ h *ℤ square g → f ≡ square g → a ≡ a' → b ≡ b' →
    ((a *ℤ (h *ℤ g) +ℤ b *ℤ (h *ℤ q)) *ℤ h +ℤ k *ℤ ((h *ℤ q) *ℤ (h *ℤ g))) *ℤ (s *ℤ q) ≡
    (f *ℤ a' +ℤ (g *ℤ q) *ℤ (b' +ℤ g *ℤ k)) *ℤ (((h *ℤ q) *ℤ (h *ℤ g)) *ℤ h)
same_gradient s h g f q a a' b b' k e i x y = rw (e, i, x, y) (by_ring (h ∷ g ∷ q ∷ a' ∷ b' ∷ k ∷ []) (search quotes depth 60 fits 20000) refl)

some_product : (a b : ℤ) → pos 1 ≤ℤ a → pos 1 ≤ℤ b → pos 1 ≤ℤ (a *ℤ b)
some_product a b h k = let m = mul_pos_z a b (omega (arith, ints)) (omega (arith, ints)) in omega (arith, ints, m)

some_number : (n : ℕ) → 1 ≤ n → pos 1 ≤ℤ pos n
some_number n h = omega (arith, ints)

gradient_encloses : (d : Design) (h : Form) → EnclosesDesign d h → 1 ≤ h.hessian_scale → 1 ≤ hessian_scale d → 1 ≤ cost_scale d →
    (xi : ℕ → ℤ) (q : ℕ) (u : ℕ → ℤ) → 1 ≤ q → (j : ℕ) → j < entries d →
    Encloses (gradient_enclosure d h xi q u j) (gradient_at d (condensed_of d) (pos q) xi u j) (pos (cost_scale d) *ℤ pos q)
gradient_encloses d h e ph pt pc xi q u pq j l =
    fraction_law (gradient_enclosure d h xi q u j) _ (((t *ℤ pos q) *ℤ (t *ℤ g)) *ℤ t) _ _
    (some_product ((t *ℤ pos q) *ℤ (t *ℤ g)) t both st) (some_product (pos (cost_scale d)) (pos q) (some_number (cost_scale d) pc) sq)
    (same_gradient (pos (cost_scale d)) t g (pos (4 ^ d.grid)) (pos q) by_plan _ by_state _ (k.constant j) (scale_by d) (ap pos (four-pow d.grid))
    (dot_comm (entries d) u (k.hessian j)) (dot_comm d.states xi (k.linear j)))
    (sum_law _ (constant_at h j) _ ((t *ℤ pos q) *ℤ (t *ℤ g)) (k.constant j) t both st
    (sum_law (of_plan d h q u j) (of_state d h xi j) by_plan (t *ℤ pos q) by_state (t *ℤ g) (some_product t (pos q) st sq) (some_product t g st sg)
    (combined_law (entries d) u (hessian_at h j) q pq (k.hessian j) t st
    (λ i m. brought_encloses h.hessian_scale (hessian_scale d) (k.hessian j i) (h.numbers.hessian j i) (h.hessian_radius j i) ph pt (e.hessian j i l m)))
    (combined_law d.states xi (linear_at h j) (2 ^ d.grid) (pow_pos d.grid) (k.linear j) t st
    (λ i m. brought_encloses h.hessian_scale (hessian_scale d) (k.linear j i) (h.numbers.linear j i) (h.linear_radius j i) ph pt (e.linear j i l m))))
    (brought_encloses h.hessian_scale (hessian_scale d) (k.constant j) (h.numbers.constant j) (h.constant_radius j) ph pt (e.constant j l)))
  where
    k : Condensed
    k = condensed_of d

    t : ℤ
    t = pos (hessian_scale d)

    g : ℤ
    g = pos (2 ^ d.grid)

    st : pos 1 ≤ℤ t
    st = some_number (hessian_scale d) pt

    sg : pos 1 ≤ℤ g
    sg = some_number (2 ^ d.grid) (pow_pos d.grid)

    sq : pos 1 ≤ℤ pos q
    sq = some_number q pq

    both : pos 1 ≤ℤ ((t *ℤ pos q) *ℤ (t *ℤ g))
    both = some_product (t *ℤ pos q) (t *ℤ g) (some_product t (pos q) st sq) (some_product t g st sg)

    by_plan : ℤ
    by_plan = total (entries d) (λ i. u i *ℤ k.hessian j i)

    by_state : ℤ
    by_state = total d.states (λ i. xi i *ℤ k.linear j i)

-- ---- twice the difference of two costs
-- what an enclosure stands for is at most its midpoint and radius
top_of : (e : Enclosure) (p q : ℤ) → Encloses e p q → (pos (2 ^ 40) *ℤ p) ≤ℤ ((e.mid +ℤ e.rad) *ℤ q)
top_of e p q h = closed (pos (2 ^ 40) *ℤ p) e.mid e.rad q (encloses_within h).below
  where
    closed : (p m r q : ℤ) → (p -ℤ m *ℤ q) ≤ℤ (r *ℤ q) → p ≤ℤ ((m +ℤ r) *ℤ q)
    closed p m r q h = le_by h (by_ring (p ∷ m ∷ r ∷ q ∷ []) (search quotes depth 60 fits 20000) refl)

-- numbers alone: the gradients g over s q and f over s o, the step u / q - w / o
slope_below : (n s q o g f u w e : ℤ) → pos 0 <ℤ s →
    (n *ℤ ((g *ℤ (s *ℤ o) +ℤ f *ℤ (s *ℤ q)) *ℤ (u *ℤ o +ℤ neg_ℤ w *ℤ q))) ≤ℤ (e *ℤ (((s *ℤ q) *ℤ (s *ℤ o)) *ℤ (q *ℤ o))) →
    (n *ℤ ((o *ℤ g +ℤ q *ℤ f) *ℤ (o *ℤ u -ℤ q *ℤ w))) ≤ℤ (e *ℤ (s *ℤ (square q *ℤ square o)))
slope_below n s q o g f u w e ps h = cancel-le_z s _ _ ps (le_by h (by_ring (n ∷ s ∷ q ∷ o ∷ g ∷ f ∷ u ∷ w ∷ e ∷ []) (search quotes depth 60 fits 20000) refl))

-- x costs more than y by half the slope, which is at most the rise a, and so by at most k over 2^16
rise_below : (x y z a k m : ℤ) → pos 0 ≤ℤ m → pos 2 *ℤ x ≡ pos 2 *ℤ y +ℤ z → (pos (2 ^ 40) *ℤ z) ≤ℤ (a *ℤ m) → a ≤ℤ (k *ℤ pos (2 ^ 25)) →
    (pos (2 ^ 16) *ℤ x) ≤ℤ (pos (2 ^ 16) *ℤ y +ℤ k *ℤ m)
rise_below x y z a k m pm e h c =
    cancel-le_z (pos (2 ^ 25)) _ _ (omega (arith, ints)) (le_by (add-le-add_z h (mul-le-mul_left_z m pm c))
    (same_by (ap (λ (n : ℤ). pos (2 ^ 40) *ℤ n) (sym e)) (by_ring (x ∷ y ∷ z ∷ a ∷ k ∷ m ∷ []) (search quotes depth 60 fits 20000) refl)))

-- ---- the floor
-- what an enclosure stands for is within its magnitude rounded up to 2^16
within_steepness : (e : Enclosure) (p q : ℤ) → pos 1 ≤ℤ q → Encloses e p q → (pos (2 ^ 48) *ℤ square p) ≤ℤ (square (ceil_of (magnitude e) (2 ^ 16)) *ℤ square q)
within_steepness e p q pq h =
    closed p q (ceil_of (magnitude e) (2 ^ 16))
    (high (pos (2 ^ 40) *ℤ p) e.mid (absolute e.mid) e.rad q _ (omega (arith, ints)) pq (encloses_within h).below (ceil_of_is (magnitude e) (2 ^ 16) (lit< tt)).greatest)
    (low (pos (2 ^ 40) *ℤ p) e.mid (absolute e.mid) e.rad q _ (omega (arith, ints)) pq (encloses_within h).above (ceil_of_is (magnitude e) (2 ^ 16) (lit< tt)).greatest)
  where
    high : (p m a r q k : ℤ) → m ≤ℤ a → pos 1 ≤ℤ q → (p -ℤ m *ℤ q) ≤ℤ (r *ℤ q) → (a +ℤ r) ≤ℤ k → p ≤ℤ (k *ℤ q)
    high p m a r q k l pq h c =
        let o : pos 0 ≤ℤ q = omega (arith, ints) in
        le_by (add-le-add_z h (add-le-add_z (mul-le-mul_left_z q o l) (mul-le-mul_left_z q o c)))
        (by_ring (p ∷ m ∷ a ∷ r ∷ q ∷ k ∷ []) (search quotes depth 60 fits 20000) refl)

    low : (p m a r q k : ℤ) → neg_ℤ a ≤ℤ m → pos 1 ≤ℤ q → neg_ℤ (r *ℤ q) ≤ℤ (p -ℤ m *ℤ q) → (a +ℤ r) ≤ℤ k → neg_ℤ (k *ℤ q) ≤ℤ p
    low p m a r q k l pq h c =
        let o : pos 0 ≤ℤ q = omega (arith, ints) in
        le_by (add-le-add_z h (add-le-add_z (mul-le-mul_left_z q o l) (mul-le-mul_left_z q o c)))
        (by_ring (p ∷ m ∷ a ∷ r ∷ q ∷ k ∷ []) (search quotes depth 60 fits 20000) refl)

    -- the difference of the squares is a product, over 2^32
    closed : (p q k : ℤ) → (pos (2 ^ 40) *ℤ p) ≤ℤ (k *ℤ pos (2 ^ 16) *ℤ q) → neg_ℤ (k *ℤ pos (2 ^ 16) *ℤ q) ≤ℤ (pos (2 ^ 40) *ℤ p) →
        (pos (2 ^ 48) *ℤ square p) ≤ℤ (square k *ℤ square q)
    closed p q k h l = cancel-le_z (pos (2 ^ 32)) _ _ (omega (arith, ints))
        (le_by (mul_nonneg_z (k *ℤ pos (2 ^ 16) *ℤ q -ℤ pos (2 ^ 40) *ℤ p) (k *ℤ pos (2 ^ 16) *ℤ q +ℤ pos (2 ^ 40) *ℤ p) (apart h) (beside (pos (2 ^ 40) *ℤ p) (k *ℤ pos (2 ^ 16) *ℤ q) l))
        (by_ring (p ∷ q ∷ k ∷ []) (search quotes depth 60 fits 20000) refl))
      where
        apart : {a b : ℤ} → a ≤ℤ b → pos 0 ≤ℤ (b -ℤ a)
        apart {a} {b} h = omega (arith, ints)

        beside : (a b : ℤ) → neg_ℤ b ≤ℤ a → pos 0 ≤ℤ (b +ℤ a)
        beside a b h = omega (arith, ints)

-- y costs less than x by at most the squares z over 4 r, and so by at most k over 2^16; o is what x is over, and t what y is over
pull_below : (r s c x y z g o t k : ℤ) → pos 0 <ℤ r → pos 0 <ℤ s → pos 0 ≤ℤ c →
    (pos 4 *ℤ (r *ℤ s) *ℤ (x *ℤ square t)) ≤ℤ (pos 4 *ℤ (r *ℤ s) *ℤ (y *ℤ square o) +ℤ c *ℤ z *ℤ square t) →
    (pos (2 ^ 48) *ℤ z) ≤ℤ (g *ℤ square (s *ℤ o)) → (c *ℤ g) ≤ℤ (k *ℤ (pos (2 ^ 34) *ℤ r)) →
    (pos (2 ^ 16) *ℤ (x *ℤ square t)) ≤ℤ (pos (2 ^ 16) *ℤ (y *ℤ square o) +ℤ k *ℤ (s *ℤ (square o *ℤ square t)))
pull_below r s c x y z g o t k pr ps pc h w m =
    cancel-le_z (pos (2 ^ 34) *ℤ (r *ℤ s)) _ _ (mul_pos_z (pos (2 ^ 34)) (r *ℤ s) (omega (arith, ints)) (mul_pos_z r s pr ps))
    (le_by (add-le-add_z (mul-le-mul_left_z (pos (2 ^ 48)) (omega (arith, ints)) h)
    (add-le-add_z (mul-le-mul_left_z (c *ℤ square t) (mul_nonneg_z c (square t) pc (square_nonneg_z t)) w)
    (mul-le-mul_left_z (square (s *ℤ o) *ℤ square t) (mul_nonneg_z (square (s *ℤ o)) (square t) (square_nonneg_z (s *ℤ o)) (square_nonneg_z t)) m)))
    (by_ring (r ∷ s ∷ c ∷ x ∷ y ∷ z ∷ g ∷ o ∷ t ∷ k ∷ []) (search quotes depth 60 fits 20000) refl))

-- ---- both
-- x over q, y over o and z over t
joined : (s x y z q o t a b k : ℤ) → pos 0 <ℤ o → pos 0 ≤ℤ s →
    (pos (2 ^ 16) *ℤ (x *ℤ square o)) ≤ℤ (pos (2 ^ 16) *ℤ (y *ℤ square q) +ℤ a *ℤ (s *ℤ (square q *ℤ square o))) →
    (pos (2 ^ 16) *ℤ (y *ℤ square t)) ≤ℤ (pos (2 ^ 16) *ℤ (z *ℤ square o) +ℤ b *ℤ (s *ℤ (square o *ℤ square t))) → (a +ℤ b) ≤ℤ k →
    (pos (2 ^ 16) *ℤ x *ℤ square t) ≤ℤ ((pos (2 ^ 16) *ℤ z +ℤ k *ℤ s *ℤ square t) *ℤ square q)
joined s x y z q o t a b k po ps h l m =
    cancel-le_z (square o) _ _ (mul_pos_z o o po po)
    (le_by (add-le-add_z (mul-le-mul_left_z (square t) (square_nonneg_z t) h) (add-le-add_z (mul-le-mul_left_z (square q) (square_nonneg_z q) l)
    (mul-le-mul_left_z (s *ℤ (square o *ℤ (square q *ℤ square t)))
    (mul_nonneg_z s _ ps (mul_nonneg_z (square o) _ (square_nonneg_z o) (mul_nonneg_z (square q) (square t) (square_nonneg_z q) (square_nonneg_z t)))) m)))
    (by_ring (s ∷ x ∷ y ∷ z ∷ q ∷ o ∷ t ∷ a ∷ b ∷ k ∷ []) (search quotes depth 60 fits 20000) refl))

-- at any state, a plan and a reference over naturals
near_best_at : (d : Design) (h : Form) → IsSound d (input_floor d) → IsFormFor d h → (xi : ℕ → ℤ) (q : ℕ) (u : ℕ → ℤ) (o : ℕ) (w : ℕ → ℤ) → 1 ≤ q → 1 ≤ o →
    (excess : ℤ) → excess_at d h xi q u o w ≤ℤ excess → IsNearBest d xi (pos q) u excess
near_best_at d h sound form xi q u o w pq po excess le r t pr =
    joined s (cost d (pos q) xi u) (cost d (pos o) xi w) (cost d r xi t) (pos q) (pos o) r
    (ceil_of (rise d h xi q u o w) (2 ^ 25)) (ceil_of (pull d h xi o w) (2 ^ 34 * input_floor d)) excess (pos_positive o po) (omega (arith, ints))
    (rise_below (cost d (pos q) xi u *ℤ square (pos o)) (cost d (pos o) xi w *ℤ square (pos q)) (dot (entries d) sums steps) (rise d h xi q u o w) _
    (s *ℤ (square (pos q) *ℤ square (pos o)))
    (mul_nonneg_z s _ (omega (arith, ints)) (mul_nonneg_z (square (pos q)) (square (pos o)) (square_nonneg_z (pos q)) (square_nonneg_z (pos o))))
    (difference_law d k condensed xi (pos q) u (pos o) w) slopes (ceil_of_is (rise d h xi q u o w) (2 ^ 25) (lit< tt)).greatest)
    (pull_below (pos (input_floor d)) s (pos d.cost_denominator) (cost d (pos o) xi w) (cost d r xi t) (total (entries d) (λ j. square (reference j)))
    (total (entries d) (λ j. square (steepness d h xi o w j))) (pos o) r _ (pos_positive (input_floor d) sound.rho_positive) ps (omega (arith, ints))
    (floor_law d (input_floor d) k sound condensed xi (pos o) w r t) squares
    (ceil_of_is (pull d h xi o w) (2 ^ 34 * input_floor d) floor_some).greatest) le
  where
    k : Condensed
    k = condensed_of d

    condensed : IsCondensed d k
    condensed = condensing d sound.inputs

    s : ℤ
    s = pos (cost_scale d)

    scale_some : 1 ≤ hessian_scale d
    scale_some = (exact_form_sound d (input_floor d) sound).hessian_some

    cost_some : 1 ≤ cost_scale d
    cost_some = one-le-mul sound.cost_denominator (rw pow-two (one-le-mul base base))
      where
        base : 1 ≤ d.row_denominator * 2 ^ d.grid * d.plant_denominator ^ d.stages
        base = one-le-mul (one-le-mul sound.row_denominator (pow_pos d.grid)) (pow_positive d.plant_denominator d.stages sound.plant_denominator)

    ps : pos 0 <ℤ s
    ps = pos_positive (cost_scale d) cost_some

    floor_some : 0 < 2 ^ 34 * input_floor d
    floor_some = omega (arith, sound.rho_positive)

    own : ℕ → ℤ
    own j = gradient_at d k (pos q) xi u j

    reference : ℕ → ℤ
    reference j = gradient_at d k (pos o) xi w j

    sums : ℕ → ℤ
    sums j = pos o *ℤ own j +ℤ pos q *ℤ reference j

    steps : ℕ → ℤ
    steps j = pos o *ℤ u j -ℤ pos q *ℤ w j

    sq : pos 1 ≤ℤ pos q
    sq = some_number q pq

    so : pos 1 ≤ℤ pos o
    so = some_number o po

    ss : pos 1 ≤ℤ s
    ss = some_number (cost_scale d) cost_some

    own_encloses : (j : ℕ) → j < entries d → Encloses (gradient_enclosure d h xi q u j) (own j) (s *ℤ pos q)
    own_encloses j l = gradient_encloses d h form.encloses form.hessian_some scale_some cost_some xi q u pq j l

    reference_encloses : (j : ℕ) → j < entries d → Encloses (gradient_enclosure d h xi o w j) (reference j) (s *ℤ pos o)
    reference_encloses j l = gradient_encloses d h form.encloses form.hessian_some scale_some cost_some xi o w po j l

    slope : (j : ℕ) → j < entries d → (pos (2 ^ 40) *ℤ (sums j *ℤ steps j)) ≤ℤ
        (((slope_enclosure d h xi q u o w j).mid +ℤ (slope_enclosure d h xi q u o w j).rad) *ℤ (s *ℤ (square (pos q) *ℤ square (pos o))))
    slope j l = slope_below (pos (2 ^ 40)) s (pos q) (pos o) (own j) (reference j) (u j) (w j) _ ps
        (top_of (slope_enclosure d h xi q u o w j) _ _
        (product_law _ (step_enclosure q u o w j) _ ((s *ℤ pos q) *ℤ (s *ℤ pos o)) _ (pos q *ℤ pos o)
        (some_product (s *ℤ pos q) (s *ℤ pos o) (some_product s (pos q) ss sq) (some_product s (pos o) ss so)) (some_product (pos q) (pos o) sq so)
        (sum_law (gradient_enclosure d h xi q u j) (gradient_enclosure d h xi o w j) (own j) (s *ℤ pos q) (reference j) (s *ℤ pos o)
        (some_product s (pos q) ss sq) (some_product s (pos o) ss so) (own_encloses j l) (reference_encloses j l))
        (sum_law (enclosed (u j) q) (enclosed (neg_ℤ (w j)) o) (u j) (pos q) (neg_ℤ (w j)) (pos o) sq so (enclosed_law (u j) q pq) (enclosed_law (neg_ℤ (w j)) o po))))

    slopes : (pos (2 ^ 40) *ℤ dot (entries d) sums steps) ≤ℤ (rise d h xi q u o w *ℤ (s *ℤ (square (pos q) *ℤ square (pos o))))
    slopes = rw (
      ← (total_scale (entries d) (pos (2 ^ 40)) (λ j. sums j *ℤ steps j)),
      ← (total_scale_right (entries d) (s *ℤ (square (pos q) *ℤ square (pos o))) (λ j. (slope_enclosure d h xi q u o w j).mid +ℤ (slope_enclosure d h xi q u o w j).rad)),
    )
        (total_mono (entries d) _ _ slope)

    squares : (pos (2 ^ 48) *ℤ total (entries d) (λ j. square (reference j))) ≤ℤ (total (entries d) (λ j. square (steepness d h xi o w j)) *ℤ square (s *ℤ pos o))
    squares = rw (
      ← (total_scale (entries d) (pos (2 ^ 48)) (λ j. square (reference j))),
      ← (total_scale_right (entries d) (square (s *ℤ pos o)) (λ j. square (steepness d h xi o w j))),
    )
        (total_mono (entries d) _ _ (λ j l. within_steepness (gradient_enclosure d h xi o w j) (reference j) (s *ℤ pos o) (some_product s (pos o) ss so) (reference_encloses j l)))

-- ---- a policy
at_least_itself : (z : ℤ) → z ≤ℤ pos (at_least_none z)
at_least_itself (pos n) = omega (arith, ints)
at_least_itself (negsuc n) = omega (arith, ints)

denominator_some : (d : Design) (p : Plans) (c : ℕ) → IsPolicyFor d p → 1 ≤ c → c ≤ 2 ^ d.states → pos 1 ≤ℤ corner_denominator p c
denominator_some d p c f l m = (f.denominators (c - 1) (pos 0) (omega (arith, f.count))).low

excess_covers : (d : Design) (h : Form) (p r : Plans) (c : ℕ) → 1 ≤ c → c ≤ 2 ^ d.states → corner_excess d h p r c ≤ℤ pos (excess_of d h p r)
excess_covers d h p r (suc c) l m =
    le_trans_z (at_least_itself (corner_excess d h p r (suc c)))
    (raised (greatest_term c (2 ^ d.states) (λ c. at_least_none (corner_excess d h p r (suc c))) (omega arith)))
  where
    raised : {a b : ℕ} → a ≤ b → pos a ≤ℤ pos b
    raised {a} {b} h = omega (arith, ints)
excess_covers d h p r zero l m = absurd (omega arith)

pub excess_law : ExcessLaw
excess_law d h p r sound form f g c l m =
    subst (λ (q : ℤ). IsNearBest d (corner d c) q (corner_plan p c) (pos (excess_of d h p r))) (same_of (corner_denominator p c) (denominator_some d p c f l m))
    (near_best_at d h sound form (corner d c) (unsigned_abs (corner_denominator p c)) (corner_plan p c) (unsigned_abs (corner_denominator r c)) (corner_plan r c)
    (one_of (corner_denominator p c) (denominator_some d p c f l m)) (one_of (corner_denominator r c) (denominator_some d r c g l m))
    (pos (excess_of d h p r)) (excess_covers d h p r c l m))
  where
    one_of : (z : ℤ) → pos 1 ≤ℤ z → 1 ≤ unsigned_abs z
    one_of z h = omega (arith, ints)

    same_of : (z : ℤ) → pos 1 ≤ℤ z → pos (unsigned_abs z) ≡ z
    same_of z h = omega (arith, ints)
