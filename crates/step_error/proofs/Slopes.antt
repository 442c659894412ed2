-- Each entry of the gradient of the Lagrangian at a plan of the machine is small.
use Rattle.std.proofs.Common.{◌≡◌, ℕ, zero, suc, ◌+◌, ◌-◌, ◌*◌, ◌^◌, ◌<◌, ◌≤◌, [], ◌∷◌, ℤ, pos, ◌+ℤ◌, ◌-ℤ◌, ◌*ℤ◌, neg_ℤ, ◌≤ℤ◌, ◌<ℤ◌, List, unsigned_abs, arith, ap, ◌∙◌, refl}
use Rattle.std.proofs.lemmas.Int.{ints, unsigned_abs-mul}
use Rattle.std.proofs.lemmas.Nat.{pow-add}
use Rattle.std.proofs.Math.Nat.{mul-le-mul_left, mul-le-mul_right}
use Rattle.integer_algebra.specs.Sums.{total, dot, image, coimage, at}
use Rattle.integer_algebra.specs.Sizes.{size, amount}
use Rattle.integer_algebra.specs.Bounds.{absolute, IsWithin}
use Rattle.integer_algebra.specs.Division.{ceil_div}
use Rattle.integer_algebra.proofs.OrderLaws.{le_by, le_of_lt_z, pos_positive, mul-le-mul_left_z, cancel-le_z, mul_nonneg_z, mul_pos_z}
use Rattle.integer_algebra.proofs.VectorLaws.{matrix_scale}
use Rattle.integer_algebra.proofs.BoundLaws.{within_more, within_sum}
use Rattle.integer_algebra.proofs.DivisionLaws.{le-mul-ceil_div}
use Rattle.integer_algebra.proofs.PowerLaws.{pow_positive, pow-two}
use Rattle.integer_algebra.proofs.Quoting.{by_ring, quotes}
use Rattle.qp_model.specs.problem.Design.{Design, entries, rows}
use Rattle.qp_model.specs.problem.Sound.{IsSound}
use Rattle.qp_model.specs.form.Quantities.{input_floor}
use Rattle.qp_model.specs.problem.Cost.{cost_scale}
use Rattle.qp_model.specs.problem.Residual.{residual_scale}
use Rattle.qp_model.specs.form.Condensed.{Condensed}
use Rattle.qp_model.specs.form.Condensing.{condensed_of}
use Rattle.qp_model.specs.machine.Controller.{Numbers, IsShaped}
use Rattle.qp_model.specs.machine.Machine.{plan_entry}
use Rattle.qp_model.specs.form.Columns.{solve_matrix, solve_column}
use Rattle.qp_model.specs.form.Form.{Form, IsFormFor, hessian_scale, rows_scale, farthest, hessian_radii, linear_radii, column_radii}
use Rattle.qp_model.specs.bounds.Errors.{state_bound, combined_bound, gradient_error, error_sums_of, radius_error}
use Rattle.qp_model.specs.bounds.Built.{IsDerivedFrom}
use Rattle.step_error.specs.Laws.{slant}
use Rattle.step_error.specs.Machine.{pulls}
use Rattle.step_error.proofs.Gradients.{AreReached, gradient_within}
use Rattle.step_error.proofs.Forms.{counted, dot_apart, gradient_radius}
use Rattle.step_error.proofs.Slants.{columns_are, slant_is}

-- ---- within bounds, with a positive factor
pub within_cancel : (k b x : ℤ) → pos 0 <ℤ k → IsWithin (k *ℤ b) (k *ℤ x) → IsWithin b x
within_cancel k b x p h = record { below = cancel-le_z k x b p h.below; above = cancel-le_z k (neg_ℤ b) x p (turned k b x h.above) }
  where
    turned : (k b x : ℤ) → neg_ℤ (k *ℤ b) ≤ℤ (k *ℤ x) → (k *ℤ neg_ℤ b) ≤ℤ (k *ℤ x)
    turned k b x h = le_by h (by_ring (k ∷ b ∷ x ∷ []) (search quotes depth 60 fits 20000) refl)

pub within_factor : (k b x : ℤ) → pos 0 ≤ℤ k → IsWithin b x → IsWithin (k *ℤ b) (k *ℤ x)
within_factor k b x p h = record { below = mul-le-mul_left_z k p h.below; above = turned k b x (mul-le-mul_left_z k p h.above) }
  where
    turned : (k b x : ℤ) → (k *ℤ neg_ℤ b) ≤ℤ (k *ℤ x) → neg_ℤ (k *ℤ b) ≤ℤ (k *ℤ x)
    turned k b x h = le_by h (by_ring (k ∷ b ∷ x ∷ []) (search quotes depth 60 fits 20000) refl)

pub within_same : {b b' x x' : ℤ} → b ≡ b' → x ≡ x' → IsWithin b x → IsWithin b' x'
within_same h k within = record { below = rw (← h, ← k) within.below; above = rw (← h, ← k) within.above }

-- ---- sums of absolute values
pub total_absolute : (n : ℕ) (f : ℕ → ℤ) → total n (λ i. absolute (f i)) ≡ pos (size n f)
total_absolute zero f = refl
total_absolute (suc n) f = rw (total_absolute n f) refl

pub size_factor : (n k : ℕ) (z : ℤ) (f : ℕ → ℤ) → z ≡ pos k → size n (λ i. z *ℤ f i) ≡ k * size n f
size_factor zero k z f e = omega arith
size_factor (suc n) k z f e = rw (unsigned_abs-mul z (f n), size_factor n k z f e, e) (omega arith)

-- absolute values are at most those of the farthest numbers
pub size_farthest : (n : ℕ) (f : ℕ → ℤ) (radius : ℕ → ℕ) → size n f ≤ amount n (λ i. farthest (f i) (radius i))
size_farthest zero f radius = omega arith
size_farthest (suc n) f radius = omega (arith, size_farthest n f radius)

pub sizes_farthest : (m n : ℕ) (f : ℕ → ℕ → ℤ) (radius : ℕ → ℕ → ℕ) → amount m (λ j. size n (f j)) ≤ amount m (λ j. amount n (λ i. farthest (f j i) (radius j i)))
sizes_farthest zero n f radius = omega arith
sizes_farthest (suc m) n f radius = omega (arith, sizes_farthest m n f radius, size_farthest n (f m) (radius m))

-- ---- the midpoints' gradient
-- twice the sum of a row of the hessian, and its diagonal entry times what the state and the multipliers come to
entry_bound : (limit scale s s' h h' z : ℕ) → 0 < scale → s ≤ s' → h ≤ h' →
    2 * (limit * s) + limit * h * z ≤ 2 * (limit * scale * (ceil_div h' (2 * scale) * z + ceil_div s' scale))
entry_bound limit scale s s' h h' z p ls lh =
    let a = mul-le-mul_left (2 * limit) (le-mul-ceil_div s' scale p) in
    let b = mul-le-mul_left limit (mul-le-mul_right z (le-mul-ceil_div h' (2 * scale) (omega (arith, p)))) in
    let e = mul-le-mul_left (2 * limit) ls in
    let f = mul-le-mul_left limit (mul-le-mul_right z lh) in
    omega (arith, a, b, e, f)

-- the bound of the solved systems, in the hessian's words
system_bound : (d : Design) (h : Form) (r : ℕ) (j : ℕ) → h.matrix_factor ≡ pos d.limit_denominator → 0 < h.hessian_scale →
    (pos 2 *ℤ total (entries d) (λ i. absolute (solve_matrix h j i)) +ℤ solve_matrix h j j *ℤ pos (combined_bound d r)) ≤ℤ
    pos (2 * (d.limit_denominator * h.hessian_scale * gradient_error d (counted d h) r j))
system_bound d h r j factor p =
    let t = total_absolute (entries d) (solve_matrix h j) ∙ ap pos (size_factor (entries d) d.limit_denominator h.matrix_factor (h.numbers.hessian j) factor) in
    let b = entry_bound d.limit_denominator h.hessian_scale (size (entries d) (h.numbers.hessian j)) (amount (entries d) (λ l. farthest (h.numbers.hessian j l) (h.hessian_radius j l)))
    (unsigned_abs (h.numbers.hessian j j)) (farthest (h.numbers.hessian j j) (h.hessian_radius j j)) (combined_bound d r) p
    (size_farthest (entries d) (h.numbers.hessian j) (h.hessian_radius j)) (omega arith) in
    rw t (small _ _ _ (solve_matrix h j j) (combined_bound d r) _ (unsigned_abs-mul h.matrix_factor (h.numbers.hessian j j) ∙ ap (λ (z : ℤ). unsigned_abs z * unsigned_abs (h.numbers.hessian j j)) factor) b)
  where
    small : (s m a : ℕ) (h : ℤ) (z top : ℕ) → unsigned_abs h ≡ m * a → 2 * s + m * a * z ≤ top → (pos 2 *ℤ pos s +ℤ h *ℤ pos z) ≤ℤ pos top
    small s m a h z top e k =
        let o : h ≤ℤ pos (m * a) = omega (arith, ints, e) in
        let g : (pos z *ℤ h) ≤ℤ (pos z *ℤ pos (m * a)) = mul-le-mul_left_z (pos z) (omega (arith, ints)) o in
        let w : pos z *ℤ h ≡ h *ℤ pos z = by_ring (pos z ∷ h ∷ []) (search quotes depth 60 fits 20000) refl in
        omega (arith, ints, g, w, k)

-- the gradient that the systems have, over the matrix's denominator: each entry is within `error`
abbrev pub IsMiddle : (d : Design) (h : Form) (c : Numbers) (x l : List ℤ) (error : ℕ → ℕ) → Type 0
IsMiddle d h c x l error = (j : ℕ) → j < entries d →
    IsWithin (pos d.limit_denominator *ℤ pos h.hessian_scale *ℤ (pos (2 ^ c.step_exponent) *ℤ pos (error j)))
    (pos (2 ^ c.step_exponent) *ℤ image (entries d) (solve_matrix h) (plan_entry c x l) j +ℤ image (c.states + 1 + c.rows) (λ j i. solve_column (counted d h) i j) (pulls c x l) j)

-- from the systems' bound t on twice the gradient
pub middle_from : (d : Design) (h : Form) (c : Numbers) (x l : List ℤ) (error : ℕ → ℕ) (j : ℕ) (t : ℤ) →
    IsWithin (pos (2 ^ (c.fraction_bits + c.step_exponent)) *ℤ t)
    (pos 2 *ℤ (pos (2 ^ (c.fraction_bits + c.step_exponent)) *ℤ image (entries d) (solve_matrix h) (plan_entry c x l) j +ℤ
    pos (2 ^ c.fraction_bits) *ℤ image (c.states + 1 + c.rows) (λ j i. solve_column (counted d h) i j) (pulls c x l) j)) →
    t ≤ℤ pos (2 * (d.limit_denominator * h.hessian_scale * error j)) →
    IsWithin (pos d.limit_denominator *ℤ pos h.hessian_scale *ℤ (pos (2 ^ c.step_exponent) *ℤ pos (error j)))
    (pos (2 ^ c.step_exponent) *ℤ image (entries d) (solve_matrix h) (plan_entry c x l) j +ℤ image (c.states + 1 + c.rows) (λ j i. solve_column (counted d h) i j) (pulls c x l) j)
middle_from d h c x l error j t =
    finish (pos (2 ^ c.fraction_bits)) (pos (2 ^ c.step_exponent)) (pos d.limit_denominator *ℤ pos h.hessian_scale) (pos (error j)) t
    (image (entries d) (solve_matrix h) (plan_entry c x l) j) (image (c.states + 1 + c.rows) (λ j i. solve_column (counted d h) i j) (pulls c x l) j)
    (let o = pow_positive 2 c.fraction_bits (omega arith) in omega (arith, ints, o)) (omega (arith, ints))
    (ap pos (pow-add 2 c.fraction_bits c.step_exponent))
  where
    finish : (f s m e t hu cv : ℤ) {q : ℤ} → pos 0 <ℤ f → pos 0 ≤ℤ s → q ≡ f *ℤ s →
        IsWithin (q *ℤ t) (pos 2 *ℤ (q *ℤ hu +ℤ f *ℤ cv)) → t ≤ℤ (pos 2 *ℤ (m *ℤ e)) → IsWithin (m *ℤ (s *ℤ e)) (s *ℤ hu +ℤ cv)
    finish f s m e t hu cv pf ps is h k =
        let a : IsWithin (f *ℤ (s *ℤ t)) (f *ℤ (pos 2 *ℤ (s *ℤ hu +ℤ cv))) = within_same (ring_one f s t is) (ring_two f s hu cv is) h in
        let b = within_cancel f (s *ℤ t) (pos 2 *ℤ (s *ℤ hu +ℤ cv)) pf a in
        let g : IsWithin (pos 2 *ℤ (m *ℤ (s *ℤ e))) (pos 2 *ℤ (s *ℤ hu +ℤ cv)) = within_more _ _ _ b (le_by (mul-le-mul_left_z s ps k) (ring_three s t m e)) in
        within_cancel (pos 2) (m *ℤ (s *ℤ e)) (s *ℤ hu +ℤ cv) (omega (arith, ints)) g
      where
        ring_one : (f s t : ℤ) {q : ℤ} → q ≡ f *ℤ s → q *ℤ t ≡ f *ℤ (s *ℤ t)
        ring_one f s t is = rw is (by_ring (f ∷ s ∷ t ∷ []) (search quotes depth 60 fits 20000) refl)

        ring_two : (f s hu cv : ℤ) {q : ℤ} → q ≡ f *ℤ s → pos 2 *ℤ (q *ℤ hu +ℤ f *ℤ cv) ≡ f *ℤ (pos 2 *ℤ (s *ℤ hu +ℤ cv))
        ring_two f s hu cv is = rw is (by_ring (f ∷ s ∷ hu ∷ cv ∷ []) (search quotes depth 60 fits 20000) refl)

        ring_three : (s t m e : ℤ) → pos 2 *ℤ (m *ℤ (s *ℤ e)) +ℤ s *ℤ t ≡ s *ℤ t +ℤ s *ℤ (pos 2 *ℤ (m *ℤ e))
        ring_three s t m e = by_ring (s ∷ t ∷ m ∷ e ∷ []) (search quotes depth 60 fits 20000) refl

-- by the stated errors
pub middle_within : (d : Design) (h : Form) (r : ℕ) (c : Numbers) (x l : List ℤ) → IsDerivedFrom d (counted d h) r c → IsShaped c → AreReached d r c x l →
    h.matrix_factor ≡ pos d.limit_denominator → 0 < h.hessian_scale → IsMiddle d h c x l (gradient_error d (counted d h) r)
middle_within d h r c x l made shaped reached factor p j inside =
    middle_from d h c x l (gradient_error d (counted d h) r) j (pos 2 *ℤ total (entries d) (λ i. absolute (solve_matrix h j i)) +ℤ solve_matrix h j j *ℤ pos (combined_bound d r))
    bounded (system_bound d h r j factor p)
  where
    bounded : IsWithin (pos (2 ^ (c.fraction_bits + c.step_exponent)) *ℤ (pos 2 *ℤ total (entries d) (λ i. absolute (solve_matrix h j i)) +ℤ solve_matrix h j j *ℤ pos (combined_bound d r)))
        (pos 2 *ℤ (pos (2 ^ (c.fraction_bits + c.step_exponent)) *ℤ image (entries d) (solve_matrix h) (plan_entry c x l) j +ℤ
        pos (2 ^ c.fraction_bits) *ℤ image (c.states + 1 + c.rows) (λ j i. solve_column (counted d h) i j) (pulls c x l) j))
    bounded = let e = made.sizes.states in let f = made.sizes.rows in
        within_same (ap (λ (n : ℕ). pos (2 ^ (c.fraction_bits + c.step_exponent)) *ℤ (pos 2 *ℤ total (entries d) (λ i. absolute (solve_matrix h j i)) +ℤ solve_matrix h j j *ℤ pos n))
        (let z : c.states * state_bound d + 1 + c.rows * (2 * r) ≡ combined_bound d r = rw (e, f) refl in z)) refl (gradient_within d h r c x l made shaped reached j inside)

-- ---- the exact gradient
-- from the midpoints' gradient to the exact one, by numbers alone: m is what the matrix is times, k what its rows are, a and b the scales of the form, and
-- a' and b' those of the design; u, x and y bound the plan, the state and the multipliers, and ha, fa, ca and ga are the radii
exact_closed : (p m k a b a' b' f s q u x y e t ha fa ca ga hm fm cm gm hx fx cx gx : ℤ) →
    pos 0 <ℤ m → pos 0 <ℤ a → pos 0 <ℤ b → pos 0 ≤ℤ a' → pos 0 ≤ℤ b' → pos 0 ≤ℤ s → pos 0 ≤ℤ q → pos 0 ≤ℤ p → q ≡ f *ℤ s → k *ℤ b ≡ m *ℤ a →
    IsWithin (m *ℤ a *ℤ (s *ℤ e)) (s *ℤ (m *ℤ hm) +ℤ (m *ℤ (s *ℤ fm) +ℤ m *ℤ (q *ℤ cm) +ℤ k *ℤ gm)) →
    IsWithin (a' *ℤ (u *ℤ f *ℤ ha)) (a *ℤ hx -ℤ a' *ℤ hm) → IsWithin (a' *ℤ (x *ℤ f *ℤ fa)) (a *ℤ fx -ℤ a' *ℤ fm) → IsWithin (a' *ℤ ca) (a *ℤ cx -ℤ a' *ℤ cm) →
    IsWithin (b' *ℤ (y *ℤ q *ℤ ga)) (b *ℤ gx -ℤ b' *ℤ gm) →
    (p *ℤ (b *ℤ (u *ℤ ha +ℤ x *ℤ fa +ℤ ca) +ℤ a *ℤ (y *ℤ ga))) ≤ℤ (b *ℤ a *ℤ t) →
    IsWithin (a' *ℤ b' *ℤ (p *ℤ s *ℤ e +ℤ q *ℤ t)) (p *ℤ (b' *ℤ (s *ℤ hx +ℤ s *ℤ fx +ℤ q *ℤ cx) +ℤ a' *ℤ gx))
exact_closed p m k a b a' b' f s q u x y e t ha fa ca ga hm fm cm gm hx fx cx gx pm pa pb pa' pb' ps pq pp is turn middle hd fd cd gd radii =
    within_cancel (m *ℤ a *ℤ b) (a' *ℤ b' *ℤ (p *ℤ s *ℤ e +ℤ q *ℤ t)) (p *ℤ (b' *ℤ (s *ℤ hx +ℤ s *ℤ fx +ℤ q *ℤ cx) +ℤ a' *ℤ gx)) (mul_pos_z (m *ℤ a) b (mul_pos_z m a pm pa) pb)
    (within_more (p *ℤ sum) _ _
    (within_same refl value_is (within_factor p sum value pp
    (within_sum _ _ _ _ (within_factor (b' *ℤ a' *ℤ b) _ _ (mul_nonneg_z (b' *ℤ a') b (mul_nonneg_z b' a' pb' pa') (le_of_lt_z pb)) middle)
    (within_sum _ _ _ _ (within_sum _ _ _ _ (within_factor (m *ℤ b' *ℤ b *ℤ s) _ _ (mul_nonneg_z (m *ℤ b' *ℤ b) s front ps) hd) (within_factor (m *ℤ b' *ℤ b *ℤ s) _ _ (mul_nonneg_z (m *ℤ b' *ℤ b) s front ps) fd))
    (within_sum _ _ _ _ (within_factor (m *ℤ b' *ℤ b *ℤ q) _ _ (mul_nonneg_z (m *ℤ b' *ℤ b) q front pq) cd)
    (within_factor (m *ℤ a' *ℤ a) _ _ (mul_nonneg_z (m *ℤ a') a (mul_nonneg_z m a' (le_of_lt_z pm) pa') (le_of_lt_z pa)) gd))))))
    (le_by (mul-le-mul_left_z (m *ℤ b' *ℤ a' *ℤ q) (mul_nonneg_z (m *ℤ b' *ℤ a') q (mul_nonneg_z (m *ℤ b') a' (mul_nonneg_z m b' (le_of_lt_z pm) pb') pa') pq) radii) bound_is))
  where
    front : pos 0 ≤ℤ (m *ℤ b' *ℤ b)
    front = mul_nonneg_z (m *ℤ b') b (mul_nonneg_z m b' (le_of_lt_z pm) pb') (le_of_lt_z pb)

    sum : ℤ
    sum = (b' *ℤ a' *ℤ b) *ℤ (m *ℤ a *ℤ (s *ℤ e)) +ℤ
        (((m *ℤ b' *ℤ b *ℤ s) *ℤ (a' *ℤ (u *ℤ f *ℤ ha)) +ℤ (m *ℤ b' *ℤ b *ℤ s) *ℤ (a' *ℤ (x *ℤ f *ℤ fa))) +ℤ
        ((m *ℤ b' *ℤ b *ℤ q) *ℤ (a' *ℤ ca) +ℤ (m *ℤ a' *ℤ a) *ℤ (b' *ℤ (y *ℤ q *ℤ ga))))

    value : ℤ
    value = (b' *ℤ a' *ℤ b) *ℤ (s *ℤ (m *ℤ hm) +ℤ (m *ℤ (s *ℤ fm) +ℤ m *ℤ (q *ℤ cm) +ℤ k *ℤ gm)) +ℤ
        (((m *ℤ b' *ℤ b *ℤ s) *ℤ (a *ℤ hx -ℤ a' *ℤ hm) +ℤ (m *ℤ b' *ℤ b *ℤ s) *ℤ (a *ℤ fx -ℤ a' *ℤ fm)) +ℤ
        ((m *ℤ b' *ℤ b *ℤ q) *ℤ (a *ℤ cx -ℤ a' *ℤ cm) +ℤ (m *ℤ a' *ℤ a) *ℤ (b *ℤ gx -ℤ b' *ℤ gm)))

    value_is : p *ℤ value ≡ m *ℤ a *ℤ b *ℤ (p *ℤ (b' *ℤ (s *ℤ hx +ℤ s *ℤ fx +ℤ q *ℤ cx) +ℤ a' *ℤ gx))
    value_is = apart ∙ ap (λ (z : ℤ). p *ℤ (b' *ℤ a' *ℤ (z *ℤ gm) +ℤ (m *ℤ b' *ℤ b *ℤ a *ℤ (s *ℤ hx +ℤ s *ℤ fx +ℤ q *ℤ cx) +ℤ m *ℤ a' *ℤ a *ℤ (b *ℤ gx -ℤ b' *ℤ gm)))) turn ∙ joined
      where
        apart : p *ℤ value ≡ p *ℤ (b' *ℤ a' *ℤ (k *ℤ b *ℤ gm) +ℤ (m *ℤ b' *ℤ b *ℤ a *ℤ (s *ℤ hx +ℤ s *ℤ fx +ℤ q *ℤ cx) +ℤ m *ℤ a' *ℤ a *ℤ (b *ℤ gx -ℤ b' *ℤ gm)))
        apart = by_ring (p ∷ m ∷ k ∷ a ∷ b ∷ a' ∷ b' ∷ s ∷ q ∷ hm ∷ fm ∷ cm ∷ gm ∷ hx ∷ fx ∷ cx ∷ gx ∷ []) (search quotes depth 90 fits 20000) refl

        joined : p *ℤ (b' *ℤ a' *ℤ (m *ℤ a *ℤ gm) +ℤ (m *ℤ b' *ℤ b *ℤ a *ℤ (s *ℤ hx +ℤ s *ℤ fx +ℤ q *ℤ cx) +ℤ m *ℤ a' *ℤ a *ℤ (b *ℤ gx -ℤ b' *ℤ gm))) ≡
            m *ℤ a *ℤ b *ℤ (p *ℤ (b' *ℤ (s *ℤ hx +ℤ s *ℤ fx +ℤ q *ℤ cx) +ℤ a' *ℤ gx))
        joined = by_ring (p ∷ m ∷ a ∷ b ∷ a' ∷ b' ∷ s ∷ q ∷ gm ∷ hx ∷ fx ∷ cx ∷ gx ∷ []) (search quotes depth 90 fits 20000) refl

    bound_is : (m *ℤ a *ℤ b *ℤ (a' *ℤ b' *ℤ (p *ℤ s *ℤ e +ℤ q *ℤ t))) +ℤ (m *ℤ b' *ℤ a' *ℤ q) *ℤ (p *ℤ (b *ℤ (u *ℤ ha +ℤ x *ℤ fa +ℤ ca) +ℤ a *ℤ (y *ℤ ga))) ≡
        p *ℤ sum +ℤ (m *ℤ b' *ℤ a' *ℤ q) *ℤ (b *ℤ a *ℤ t)
    bound_is = rw is (by_ring (p ∷ m ∷ a ∷ b ∷ a' ∷ b' ∷ f ∷ s ∷ u ∷ x ∷ y ∷ e ∷ t ∷ ha ∷ fa ∷ ca ∷ ga ∷ []) (search quotes depth 90 fits 20000) refl)

-- the scales of the slant
scales : (d : Design) → pos (cost_scale d) *ℤ pos (residual_scale d) ≡
    (pos (2 ^ d.grid) *ℤ pos (2 ^ d.grid) *ℤ pos (2 ^ d.grid)) *ℤ (pos (hessian_scale d) *ℤ pos (rows_scale d))
scales d = rw (pow-two (d.row_denominator * 2 ^ d.grid * d.plant_denominator ^ d.stages), pow-two (d.row_denominator * d.plant_denominator ^ d.stages))
    (closed (pos d.cost_denominator) (pos d.row_denominator) (pos (2 ^ d.grid)) (pos (d.plant_denominator ^ d.stages)) (pos d.limit_denominator))
  where
    closed : (cost row w plant limit : ℤ) →
        cost *ℤ (row *ℤ w *ℤ plant *ℤ (row *ℤ w *ℤ plant)) *ℤ (limit *ℤ w *ℤ plant) ≡
        (w *ℤ w *ℤ w) *ℤ (cost *ℤ (row *ℤ plant *ℤ (row *ℤ plant)) *ℤ (limit *ℤ plant))
    closed cost row w plant limit = by_ring (cost ∷ row ∷ w ∷ plant ∷ limit ∷ []) (search quotes depth 60 fits 20000) refl

-- a plan of the machine, whose entries are at most u and whose gradient has errors within `error`, and what its gradient's entry is made of
module _ (d : Design) (h : Form) (r : ℕ) (c : Numbers) (x l : List ℤ) (xi : ℕ → ℤ) (u : ℕ) (sound : IsSound d (input_floor d)) (form : IsFormFor d (counted d h))
    (made : IsDerivedFrom d (counted d h) r c) (shaped : IsShaped c) (reached : AreReached d r c x l)
    (small : (j : ℕ) → j < entries d → unsigned_abs (plan_entry c x l j) ≤ u * 2 ^ c.fraction_bits) (error : ℕ → ℕ) (middle : IsMiddle d h c x l error) where
  abbrev exact : Condensed
  exact = condensed_of d

  -- the exact gradient over the design's scales and 2^40
  exact_within : (j : ℕ) → j < entries d →
      IsWithin (pos (hessian_scale d) *ℤ pos (rows_scale d) *ℤ (pos (2 ^ 40) *ℤ pos (2 ^ c.step_exponent) *ℤ pos (error j) +ℤ
      pos (2 ^ (c.fraction_bits + c.step_exponent)) *ℤ pos (radius_error (error_sums_of d (counted d h) r) u)))
      (pos (2 ^ 40) *ℤ (pos (rows_scale d) *ℤ
      (pos (2 ^ c.step_exponent) *ℤ image (entries d) exact.hessian (plan_entry c x l) j +ℤ pos (2 ^ c.step_exponent) *ℤ dot d.states (exact.linear j) (at x) +ℤ
      pos (2 ^ (c.fraction_bits + c.step_exponent)) *ℤ exact.constant j) +ℤ pos (hessian_scale d) *ℤ coimage (rows d) exact.by_plan (at l) j))
  exact_within j inside =
      exact_closed (pos (2 ^ 40)) (pos d.limit_denominator) h.row_factor (pos h.hessian_scale) (pos h.rows_scale) (pos (hessian_scale d)) (pos (rows_scale d))
      (pos (2 ^ c.fraction_bits)) (pos (2 ^ c.step_exponent)) (pos (2 ^ (c.fraction_bits + c.step_exponent)))
      (pos u) (pos (state_bound d)) (pos (2 * r)) (pos (error j)) (pos (radius_error (error_sums_of d (counted d h) r) u))
      (pos (hessian_radii (counted d h) j)) (pos (linear_radii (counted d h) j)) (pos (h.constant_radius j)) (pos (column_radii (counted d h) j))
      (image (entries d) h.numbers.hessian (plan_entry c x l) j) (dot d.states (h.numbers.linear j) (at x)) (h.numbers.constant j) (coimage (rows d) h.numbers.by_plan (at l) j)
      (image (entries d) exact.hessian (plan_entry c x l) j) (dot d.states (exact.linear j) (at x)) (exact.constant j) (coimage (rows d) exact.by_plan (at l) j)
      (pos_positive d.limit_denominator sound.limit_denominator) (pos_positive h.hessian_scale form.hessian_some) (pos_positive h.rows_scale form.rows_some)
      (omega (arith, ints)) (omega (arith, ints)) (omega (arith, ints)) (omega (arith, ints)) (omega (arith, ints))
      (ap pos (pow-add 2 c.fraction_bits c.step_exponent)) (form.row_factor ∙ ap (λ (z : ℤ). z *ℤ pos h.hessian_scale) form.matrix_factor)
      (within_same refl middle_is (middle j inside))
      (dot_apart (entries d) (pos h.hessian_scale) (pos (hessian_scale d)) (hessian_scale d) (u * 2 ^ c.fraction_bits) (exact.hessian j) (h.numbers.hessian j) (plan_entry c x l)
      (h.hessian_radius j) (λ i k. form.encloses.hessian j i inside k) small)
      (dot_apart d.states (pos h.hessian_scale) (pos (hessian_scale d)) (hessian_scale d) (state_bound d * 2 ^ c.fraction_bits) (exact.linear j) (h.numbers.linear j) (at x)
      (h.linear_radius j) (λ i k. form.encloses.linear j i inside k) (λ i k. reached.state i (rw made.sizes.states k)))
      (form.encloses.constant j inside)
      (dot_apart (rows d) (pos h.rows_scale) (pos (rows_scale d)) (rows_scale d) (2 * r * 2 ^ (c.fraction_bits + c.step_exponent)) (λ i. exact.by_plan i j) (λ i. h.numbers.by_plan i j) (at l)
      (λ i. h.plan_radius i j) (λ i k. form.encloses.plan i j k inside) (λ i k. reached.multipliers i (rw made.sizes.rows k)))
      (radii_le (gradient_radius d (counted d h) r u j sound form inside))
    where
      middle_is : pos (2 ^ c.step_exponent) *ℤ image (entries d) (solve_matrix h) (plan_entry c x l) j +ℤ image (c.states + 1 + c.rows) (λ j i. solve_column (counted d h) i j) (pulls c x l) j ≡
          pos (2 ^ c.step_exponent) *ℤ (pos d.limit_denominator *ℤ image (entries d) h.numbers.hessian (plan_entry c x l) j) +ℤ
          (pos d.limit_denominator *ℤ (pos (2 ^ c.step_exponent) *ℤ dot d.states (h.numbers.linear j) (at x)) +ℤ
          pos d.limit_denominator *ℤ (pos (2 ^ (c.fraction_bits + c.step_exponent)) *ℤ h.numbers.constant j) +ℤ h.row_factor *ℤ coimage (rows d) h.numbers.by_plan (at l) j)
      middle_is = let e = form.matrix_factor in
          rw (matrix_scale (entries d) h.matrix_factor h.numbers.hessian (plan_entry c x l) j, columns_are d h c x l j made.sizes, e) refl

      radii_le : {m n : ℕ} → m ≤ n → pos m ≤ℤ pos n
      radii_le {m} {n} k = omega (arith, ints, k)

  pub slant_within : c.grid_bits ≤ c.fraction_bits → ((i : ℕ) → i < c.states → at x i ≡ xi i *ℤ pos (2 ^ (c.fraction_bits - c.grid_bits))) → (j : ℕ) → j < entries d →
      IsWithin (pos (cost_scale d) *ℤ pos (residual_scale d) *ℤ (pos (2 ^ 40) *ℤ pos (2 ^ c.step_exponent) *ℤ pos (error j) +ℤ
      pos (2 ^ (c.fraction_bits + c.step_exponent)) *ℤ pos (radius_error (error_sums_of d (counted d h) r) u)))
      (pos (2 ^ 40) *ℤ slant d exact (pos (2 ^ (c.fraction_bits + c.step_exponent))) xi (λ j. pos (2 ^ c.step_exponent) *ℤ plan_entry c x l j) (at l) j)
  slant_within le scaled j inside =
      within_same (outward (pos (2 ^ d.grid) *ℤ pos (2 ^ d.grid) *ℤ pos (2 ^ d.grid)) (pos (hessian_scale d) *ℤ pos (rows_scale d))
      (pos (2 ^ 40) *ℤ pos (2 ^ c.step_exponent) *ℤ pos (error j) +ℤ
      pos (2 ^ (c.fraction_bits + c.step_exponent)) *ℤ pos (radius_error (error_sums_of d (counted d h) r) u)) (scales d))
      (inward (pos (2 ^ d.grid) *ℤ pos (2 ^ d.grid) *ℤ pos (2 ^ d.grid)) (pos (2 ^ 40)) _ (slant_is d c x l xi (plan_entry c x l) j made.sizes le scaled))
      (within_factor (pos (2 ^ d.grid) *ℤ pos (2 ^ d.grid) *ℤ pos (2 ^ d.grid)) _ _ (omega (arith, ints)) (exact_within j inside))
    where
      outward : (w b e : ℤ) {a : ℤ} → a ≡ w *ℤ b → w *ℤ (b *ℤ e) ≡ a *ℤ e
      outward w b e k = rw k (by_ring (w ∷ b ∷ e ∷ []) (search quotes depth 60 fits 20000) refl)

      inward : (w p t : ℤ) {s : ℤ} → s ≡ w *ℤ t → w *ℤ (p *ℤ t) ≡ p *ℤ s
      inward w p t k = rw k (by_ring (w ∷ p ∷ t ∷ []) (search quotes depth 60 fits 20000) refl)
