-- Each plan entry of the machine is small.
use Rattle.std.proofs.Common.{◌≡◌, ℕ, ◌+◌, ◌*◌, ◌^◌, ◌<◌, ◌≤◌, [], ◌∷◌, ℤ, pos, ◌+ℤ◌, ◌*ℤ◌, ◌≤ℤ◌, ◌<ℤ◌, List, unsigned_abs, arith, ap, sym, ◌∙◌, refl}
use Rattle.std.proofs.lemmas.Int.{ints, unsigned_abs-mul}
use Rattle.std.proofs.lemmas.Nat.{pow-add}
use Rattle.std.specs.Int.Signed.{≤ℤ_refl}
use Rattle.std.proofs.Math.Nat.{one-le-mul}
use Rattle.integer_algebra.specs.Sums.{total, image}
use Rattle.integer_algebra.specs.Sizes.{amount, size}
use Rattle.integer_algebra.specs.Bounds.{absolute}
use Rattle.integer_algebra.specs.Division.{ceil_div}
use Rattle.integer_algebra.proofs.OrderLaws.{le_by, pos_positive, mul-le-mul_left_z, cancel-le_z, le_trans_z, add-le-add_z, mul_nonneg_z, mul_pos_z}
use Rattle.integer_algebra.proofs.SumLaws.{total_same, total_scale, total_scale_right, total_mono, total_swap, total_nonneg}
use Rattle.integer_algebra.proofs.SizeLaws.{total_amount}
use Rattle.integer_algebra.proofs.BoundLaws.{absolute_nonneg, within_nonneg}
use Rattle.integer_algebra.proofs.DivisionLaws.{le-mul-ceil_div}
use Rattle.integer_algebra.proofs.PowerLaws.{pow_positive}
use Rattle.integer_algebra.proofs.Quoting.{by_ring, quotes}
use Rattle.qp_model.specs.problem.Design.{Design, entries, rows}
use Rattle.qp_model.specs.problem.Sound.{IsSound}
use Rattle.qp_model.specs.form.Condensed.{IsCondensed}
use Rattle.qp_model.specs.form.Condensing.{condensed_of}
use Rattle.qp_model.specs.machine.Controller.{Numbers, IsShaped}
use Rattle.qp_model.specs.machine.Machine.{plan_entry}
use Rattle.qp_model.specs.form.Columns.{solve_matrix, solve_column, columns}
use Rattle.qp_model.specs.form.Form.{Form, IsFormFor, farthest}
use Rattle.qp_model.specs.form.Quantities.{input_floor}
use Rattle.qp_model.specs.bounds.Errors.{state_bound, combined_bound, linear_sum, constant_sum, plan_row_sum, trace_sum, plan_pull, error_sums_of, plan_bound}
use Rattle.qp_model.specs.bounds.Built.{gain_column, HasSizesOf, IsDerivedFrom}
use Rattle.step_error.specs.Machine.{pulls}
use Rattle.step_error.proofs.Gains.{over_columns, own_pull, row_pull, plan_entry_is}
use Rattle.step_error.proofs.Slants.{state_column, own_column, row_column}
use Rattle.step_error.proofs.Forms.{counted}
use Rattle.step_error.proofs.Slopes.{total_absolute, size_farthest, sizes_farthest}
use Rattle.step_error.proofs.Gradients.{AreReached, length_is, good_within}
use Rattle.step_error.proofs.Pulls.{pulls_reach, state_pull_reach}
use Rattle.step_error.proofs.Convexity.{solve_matrix_convex}
use Rattle.step_error.proofs.Entries.{solutions_sum, absolute_mul}

-- the absolute sum of column i of the linear part, and of row i of the limits
abbrev linear_size : Design → Form → ℕ → ℤ
linear_size d h i = total (entries d) (λ j. absolute (h.numbers.linear j i))

abbrev row_size : Design → Form → ℕ → ℤ
row_size d h i = total (entries d) (λ j. absolute (h.numbers.by_plan i j))

abbrev constant_size : Design → Form → ℤ
constant_size d h = total (entries d) (λ j. absolute (h.numbers.constant j))

le_same : {a a' b b' : ℤ} → a ≡ a' → b ≡ b' → a' ≤ℤ b' → a ≤ℤ b
le_same h k m = rw (h, k) m

-- a column with a factor
factored : (n : ℕ) (z : ℤ) (f g : ℕ → ℤ) → ((j : ℕ) → g j ≡ z *ℤ f j) → total n (λ j. absolute (g j)) ≡ pos (unsigned_abs z) *ℤ total n (λ j. absolute (f j))
factored n z f g h = total_same n _ _ (λ j l. rw (h j) (ap pos (unsigned_abs-mul z (f j)))) ∙ total_scale n (pos (unsigned_abs z)) (λ j. absolute (f j))

-- a sum of what isn't negative, against what is at most b
weighed : (n : ℕ) (f v : ℕ → ℤ) (b : ℤ) → ((i : ℕ) → i < n → pos 0 ≤ℤ f i) → ((i : ℕ) → i < n → absolute (v i) ≤ℤ b) →
    total n (λ i. f i *ℤ absolute (v i)) ≤ℤ (total n f *ℤ b)
weighed n f v b pf h = rw (← (total_scale_right n b f)) (total_mono n _ _ (λ i l. mul-le-mul_left_z (f i) (pf i l) (h i l)))

sizes_nonneg : (n : ℕ) (f : ℕ → ℤ) → pos 0 ≤ℤ total n (λ j. absolute (f j))
sizes_nonneg n f = total_nonneg n (λ j. absolute (f j)) (λ j l. absolute_nonneg (f j))

-- all columns against the state and the multipliers
columns_weight : (d : Design) (h : Form) (r : ℕ) (c : Numbers) (x l : List ℤ) → HasSizesOf d c → AreReached d r c x l →
    total (c.states + 1 + c.rows) (λ i. total (entries d) (λ j. absolute (solve_column (counted d h) i j)) *ℤ absolute (pulls c x l i)) ≤ℤ
    (pos (2 ^ (c.fraction_bits + c.step_exponent)) *ℤ
    (pos (unsigned_abs h.matrix_factor) *ℤ (pos (state_bound d) *ℤ total d.states (linear_size d h) +ℤ constant_size d h) +ℤ
    pos (unsigned_abs h.row_factor) *ℤ (pos (2 * r) *ℤ total (rows d) (row_size d h))))
columns_weight d h r c x l sizes reached =
    rw (over_columns c.states c.rows (λ i. total (entries d) (λ j. absolute (solve_column (counted d h) i j)) *ℤ absolute (pulls c x l i)))
    (le_by (add-le-add_z states (add-le-add_z own multipliers))
    (closed (total c.states (λ i. total (entries d) (λ j. absolute (solve_column (counted d h) i j)) *ℤ absolute (pulls c x l i)))
    (total (entries d) (λ j. absolute (solve_column (counted d h) c.states j)) *ℤ absolute (pulls c x l c.states))
    (total c.rows (λ i. total (entries d) (λ j. absolute (solve_column (counted d h) (c.states + 1 + i) j)) *ℤ absolute (pulls c x l (c.states + 1 + i))))
    (pos (unsigned_abs h.matrix_factor)) (total d.states (linear_size d h)) (constant_size d h) (pos (unsigned_abs h.row_factor)) (total (rows d) (row_size d h))
    (pos (state_bound d)) (pos (2 * r)) (pos (2 ^ (c.fraction_bits + c.step_exponent)))))
  where
    closed : (a b e limit f h k g n y s : ℤ) →
        (s *ℤ (limit *ℤ (n *ℤ f +ℤ h) +ℤ k *ℤ (y *ℤ g))) +ℤ (a +ℤ (b +ℤ e)) ≡ (a +ℤ b +ℤ e) +ℤ (limit *ℤ f *ℤ (n *ℤ s) +ℤ (limit *ℤ h *ℤ s +ℤ k *ℤ g *ℤ (y *ℤ s)))
    closed a b e limit f h k g n y s = by_ring (a ∷ b ∷ e ∷ limit ∷ f ∷ h ∷ k ∷ g ∷ n ∷ y ∷ s ∷ []) (search quotes depth 90 fits 20000) refl

    scaled_nonneg : (k : ℕ) (z : ℤ) → pos 0 ≤ℤ z → pos 0 ≤ℤ (pos k *ℤ z)
    scaled_nonneg k z h = mul_nonneg_z (pos k) z (omega (arith, ints)) h

    states : total c.states (λ i. total (entries d) (λ j. absolute (solve_column (counted d h) i j)) *ℤ absolute (pulls c x l i)) ≤ℤ
        (pos (unsigned_abs h.matrix_factor) *ℤ total d.states (linear_size d h) *ℤ pos (state_bound d * 2 ^ (c.fraction_bits + c.step_exponent)))
    states = le_same
        (total_same c.states _ _ (λ i k. ap (λ (z : ℤ). z *ℤ absolute (pulls c x l i))
        (factored (entries d) h.matrix_factor (λ j. h.numbers.linear j i) (solve_column (counted d h) i) (λ j. state_column d h i j (rw (← (sizes.states)) k)))))
        (ap (λ (z : ℤ). z *ℤ pos (state_bound d * 2 ^ (c.fraction_bits + c.step_exponent)))
        (sym (total_scale c.states (pos (unsigned_abs h.matrix_factor)) (linear_size d h) ∙ ap (λ (n : ℕ). pos (unsigned_abs h.matrix_factor) *ℤ total n (linear_size d h)) sizes.states)))
        (weighed c.states (λ i. pos (unsigned_abs h.matrix_factor) *ℤ linear_size d h i) (pulls c x l) (pos (state_bound d * 2 ^ (c.fraction_bits + c.step_exponent)))
        (λ i k. scaled_nonneg (unsigned_abs h.matrix_factor) (linear_size d h i) (sizes_nonneg (entries d) (λ j. h.numbers.linear j i)))
        (λ i k. state_pull_reach c x l (state_bound d) i k (reached.state i k)))

    own : (total (entries d) (λ j. absolute (solve_column (counted d h) c.states j)) *ℤ absolute (pulls c x l c.states)) ≤ℤ
        (pos (unsigned_abs h.matrix_factor) *ℤ constant_size d h *ℤ pos (2 ^ (c.fraction_bits + c.step_exponent)))
    own = rw (
      own_pull c x l,
      factored (entries d) h.matrix_factor h.numbers.constant (solve_column (counted d h) c.states)
          (λ j. ap (λ (n : ℕ). solve_column (counted d h) n j) sizes.states ∙ own_column d h j),
    ) (≤ℤ_refl _)

    multipliers : total c.rows (λ i. total (entries d) (λ j. absolute (solve_column (counted d h) (c.states + 1 + i) j)) *ℤ absolute (pulls c x l (c.states + 1 + i))) ≤ℤ
        (pos (unsigned_abs h.row_factor) *ℤ total (rows d) (row_size d h) *ℤ pos (2 * r * 2 ^ (c.fraction_bits + c.step_exponent)))
    multipliers = le_same
        (total_same c.rows _ _ (λ i k. ap (λ (z : ℤ). z *ℤ absolute (pulls c x l (c.states + 1 + i)))
        (factored (entries d) h.row_factor (h.numbers.by_plan i) (solve_column (counted d h) (c.states + 1 + i))
        (λ j. ap (λ (n : ℕ). solve_column (counted d h) (n + 1 + i) j) sizes.states ∙ row_column d h i j))))
        (ap (λ (z : ℤ). z *ℤ pos (2 * r * 2 ^ (c.fraction_bits + c.step_exponent)))
        (sym (total_scale c.rows (pos (unsigned_abs h.row_factor)) (row_size d h)
        ∙ ap (λ (n : ℕ). pos (unsigned_abs h.row_factor) *ℤ total n (row_size d h)) sizes.rows)))
        (weighed c.rows (λ i. pos (unsigned_abs h.row_factor) *ℤ row_size d h i) (λ i. pulls c x l (c.states + 1 + i))
        (pos (2 * r * 2 ^ (c.fraction_bits + c.step_exponent)))
        (λ i k. scaled_nonneg (unsigned_abs h.row_factor) (row_size d h i) (sizes_nonneg (entries d) (h.numbers.by_plan i)))
        (λ i k. rw (row_pull c x l i) (let o = reached.multipliers i k in omega (arith, ints, o))))

-- ---- the sums that are rounded up
rounded_up : (a b : ℕ) → 0 < b → pos a ≤ℤ (pos b *ℤ pos (ceil_div a b))
rounded_up a b h = let k = le-mul-ceil_div a b h in omega (arith, ints, k)

-- a sum that is at most one that is rounded up
under : (z : ℤ) (a e b : ℕ) → 0 < b → z ≡ pos a → a ≤ e → z ≤ℤ (pos b *ℤ pos (ceil_div e b))
under z a e b p is h = rw is (le_trans_z {b = pos e} (omega (arith, ints, h)) (rounded_up e b p))

linear_le : (d : Design) (h : Form) → 0 < h.hessian_scale → total d.states (linear_size d h) ≤ℤ (pos h.hessian_scale *ℤ pos (linear_sum (counted d h)))
linear_le d h p = under (total d.states (linear_size d h)) (amount (entries d) (λ j. size d.states (h.numbers.linear j)))
    (amount (entries d) (λ j. amount d.states (λ i. farthest (h.numbers.linear j i) (h.linear_radius j i)))) h.hessian_scale p
    (total_swap d.states (entries d) (λ i j. absolute (h.numbers.linear j i))
    ∙ total_same (entries d) _ _ (λ j l. total_absolute d.states (h.numbers.linear j)) ∙ total_amount (entries d) (λ j. size d.states (h.numbers.linear j)))
    (sizes_farthest (entries d) d.states h.numbers.linear h.linear_radius)

constant_le : (d : Design) (h : Form) → 0 < h.hessian_scale → constant_size d h ≤ℤ (pos h.hessian_scale *ℤ pos (constant_sum (counted d h)))
constant_le d h p = under (constant_size d h) (size (entries d) h.numbers.constant) (amount (entries d) (λ j. farthest (h.numbers.constant j) (h.constant_radius j))) h.hessian_scale p
    (total_absolute (entries d) h.numbers.constant) (size_farthest (entries d) h.numbers.constant h.constant_radius)

rows_le : (d : Design) (h : Form) → 0 < h.rows_scale → total (rows d) (row_size d h) ≤ℤ (pos h.rows_scale *ℤ pos (plan_row_sum (counted d h)))
rows_le d h p = under (total (rows d) (row_size d h)) (amount (rows d) (λ i. size (entries d) (h.numbers.by_plan i)))
    (amount (rows d) (λ i. amount (entries d) (λ j. farthest (h.numbers.by_plan i j) (h.plan_radius i j)))) h.rows_scale p
    (total_same (rows d) _ _ (λ i l. total_absolute (entries d) (h.numbers.by_plan i)) ∙ total_amount (rows d) (λ i. size (entries d) (h.numbers.by_plan i)))
    (sizes_farthest (rows d) (entries d) h.numbers.by_plan h.plan_radius)

trace_le : (d : Design) (h : Form) → h.matrix_factor ≡ pos d.limit_denominator → 0 < h.hessian_scale →
    total (entries d) (λ j. solve_matrix h j j) ≤ℤ (pos d.limit_denominator *ℤ (pos h.hessian_scale *ℤ pos (trace_sum (counted d h))))
trace_le d h factor p = le_same (total_scale (entries d) h.matrix_factor (λ j. h.numbers.hessian j j) ∙ ap (λ (z : ℤ). z *ℤ total (entries d) (λ j. h.numbers.hessian j j)) factor) refl
    (mul-le-mul_left_z (pos d.limit_denominator) (omega (arith, ints))
    (le_trans_z {b = total (entries d) (λ j. pos (farthest (h.numbers.hessian j j) (h.hessian_radius j j)))}
    (total_mono (entries d) _ _ (λ j l. own (h.numbers.hessian j j) (h.hessian_radius j j)))
    (le_same (total_amount (entries d) (λ j. farthest (h.numbers.hessian j j) (h.hessian_radius j j))) refl
    (rounded_up (amount (entries d) (λ j. farthest (h.numbers.hessian j j) (h.hessian_radius j j))) h.hessian_scale p))))
  where
    own : (z : ℤ) (r : ℕ) → z ≤ℤ pos (farthest z r)
    own z r = omega (arith, ints)

-- ---- numbers alone
-- from the sum of a plan entry to the entry: q is the scale, a the hessian's scale, x what pulls the plan, tr the trace
plan_closed : (limit a cost rho spread q f n lin con y row tr z s u weight trace reach lead extra : ℤ) →
    pos 0 <ℤ limit → pos 0 <ℤ a → pos 0 <ℤ rho → pos 0 <ℤ q → pos 1 ≤ℤ f → pos 0 ≤ℤ trace → pos 0 ≤ℤ cost → pos 0 ≤ℤ z → pos 0 ≤ℤ spread →
    (pos 2 *ℤ (pos 2 *ℤ limit *ℤ a *ℤ rho) *ℤ s) ≤ℤ (spread *ℤ cost *ℤ (pos 2 *ℤ f *ℤ weight +ℤ trace *ℤ reach)) →
    weight ≤ℤ (q *ℤ (limit *ℤ a *ℤ (n *ℤ lin +ℤ con +ℤ y *ℤ row))) → trace ≤ℤ (limit *ℤ (a *ℤ tr)) → reach ≤ℤ (q *ℤ z) →
    (q *ℤ u) ≤ℤ (s +ℤ q) → (cost *ℤ (n *ℤ lin +ℤ con +ℤ y *ℤ row)) ≤ℤ (pos 2 *ℤ rho *ℤ lead) → (cost *ℤ z *ℤ tr) ≤ℤ (pos 4 *ℤ f *ℤ rho *ℤ extra) →
    u ≤ℤ (f *ℤ (spread *ℤ (lead +ℤ extra) +ℤ pos 1))
plan_closed limit a cost rho spread q f n lin con y row tr z s u weight trace reach lead extra pl pa pr pq pf pt pc pz ps main weight_le trace_le reach_le rounding lead_le extra_le =
    let front : pos 0 ≤ℤ (spread *ℤ cost) = mul_nonneg_z spread cost ps pc in
    let whole : (limit *ℤ a *ℤ (pos 4 *ℤ rho *ℤ s)) ≤ℤ (limit *ℤ a *ℤ (spread *ℤ q *ℤ (pos 2 *ℤ f *ℤ (cost *ℤ (n *ℤ lin +ℤ con +ℤ y *ℤ row)) +ℤ cost *ℤ z *ℤ tr))) =
    le_by (add-le-add_z main (mul-le-mul_left_z (spread *ℤ cost) front
    (add-le-add_z (mul-le-mul_left_z (pos 2 *ℤ f) (twice f pf) weight_le) (add-le-add_z (mul-le-mul_left_z trace pt reach_le) (mul-le-mul_left_z (q *ℤ z) (product q z (less q pq) pz) trace_le)))))
    (by_ring (limit ∷ a ∷ cost ∷ rho ∷ spread ∷ q ∷ f ∷ n ∷ lin ∷ con ∷ y ∷ row ∷ tr ∷ z ∷ s ∷ weight ∷ trace ∷ reach ∷ []) (search quotes depth 90 fits 20000) refl) in
    let b = cancel-le_z (limit *ℤ a) (pos 4 *ℤ rho *ℤ s) (spread *ℤ q *ℤ (pos 2 *ℤ f *ℤ (cost *ℤ (n *ℤ lin +ℤ con +ℤ y *ℤ row)) +ℤ cost *ℤ z *ℤ tr)) (mul_pos_z limit a pl pa) whole in
    let m : (pos 4 *ℤ rho *ℤ s) ≤ℤ (pos 4 *ℤ rho *ℤ (q *ℤ (f *ℤ (spread *ℤ (lead +ℤ extra))))) =
    le_by (add-le-add_z b (mul-le-mul_left_z (spread *ℤ q) (product spread q ps (less q pq)) (add-le-add_z (mul-le-mul_left_z (pos 2 *ℤ f) (twice f pf) lead_le) extra_le)))
    (by_ring (cost ∷ rho ∷ spread ∷ q ∷ f ∷ n ∷ lin ∷ con ∷ y ∷ row ∷ tr ∷ z ∷ s ∷ lead ∷ extra ∷ []) (search quotes depth 90 fits 20000) refl) in
    let e = cancel-le_z (pos 4 *ℤ rho) s (q *ℤ (f *ℤ (spread *ℤ (lead +ℤ extra)))) (four rho pr) m in
    cancel-le_z q u (f *ℤ (spread *ℤ (lead +ℤ extra) +ℤ pos 1)) pq
    (le_by (add-le-add_z rounding (add-le-add_z e (mul-le-mul_left_z q (less q pq) pf)))
    (by_ring (spread ∷ q ∷ f ∷ s ∷ u ∷ lead ∷ extra ∷ []) (search quotes depth 90 fits 20000) refl))
  where
    less : (a : ℤ) → pos 0 <ℤ a → pos 0 ≤ℤ a
    less a h = omega (arith, ints)

    twice : (a : ℤ) → pos 1 ≤ℤ a → pos 0 ≤ℤ (pos 2 *ℤ a)
    twice a h = omega (arith, ints)

    four : (a : ℤ) → pos 0 <ℤ a → pos 0 <ℤ (pos 4 *ℤ a)
    four a h = omega (arith, ints)

    product : (a b : ℤ) → pos 0 ≤ℤ a → pos 0 ≤ℤ b → pos 0 ≤ℤ (a *ℤ b)
    product a b h k = mul_nonneg_z a b h k

-- ---- the plan
pub positive_product : (a b : ℕ) → 1 ≤ a → 1 ≤ b → 1 ≤ a * b
positive_product a b h k = one-le-mul h k

-- the columns' weight, by the sums that are rounded up
weight_le : (d : Design) (h : Form) (r : ℕ) (c : Numbers) (x l : List ℤ) → HasSizesOf d c → AreReached d r c x l → IsFormFor d (counted d h) →
    total (c.states + 1 + c.rows) (λ i. total (entries d) (λ j. absolute (solve_column (counted d h) i j)) *ℤ absolute (pulls c x l i)) ≤ℤ
    (pos (2 ^ (c.fraction_bits + c.step_exponent)) *ℤ (pos d.limit_denominator *ℤ pos h.hessian_scale *ℤ
    (pos (state_bound d) *ℤ pos (linear_sum (counted d h)) +ℤ pos (constant_sum (counted d h)) +ℤ pos (2 * r) *ℤ pos (plan_row_sum (counted d h)))))
weight_le d h r c x l sizes reached form =
    le_trans_z (columns_weight d h r c x l sizes reached)
    (closed (pos (2 ^ (c.fraction_bits + c.step_exponent))) (pos d.limit_denominator) (pos h.hessian_scale) (pos (unsigned_abs h.row_factor)) (pos h.rows_scale)
    (pos (state_bound d)) (pos (2 * r)) (total d.states (linear_size d h)) (constant_size d h) (total (rows d) (row_size d h))
    (pos (linear_sum (counted d h))) (pos (constant_sum (counted d h))) (pos (plan_row_sum (counted d h)))
    (omega (arith, ints)) (omega (arith, ints)) (omega (arith, ints)) (omega (arith, ints)) (omega (arith, ints))
    (ap (λ (z : ℤ). pos (unsigned_abs z)) form.matrix_factor)
    (ap pos (sym (unsigned_abs-mul h.row_factor (pos h.rows_scale)) ∙ ap unsigned_abs (form.row_factor ∙ ap (λ (z : ℤ). z *ℤ pos h.hessian_scale) form.matrix_factor)))
    (linear_le d h form.hessian_some) (constant_le d h form.hessian_some) (rows_le d h form.rows_some))
  where
    closed : (q limit h k g n y f1 h1 g1 lin con row : ℤ) {m : ℤ} → pos 0 ≤ℤ q → pos 0 ≤ℤ limit → pos 0 ≤ℤ k → pos 0 ≤ℤ n → pos 0 ≤ℤ y → m ≡ limit → k *ℤ g ≡ limit *ℤ h →
        f1 ≤ℤ (h *ℤ lin) → h1 ≤ℤ (h *ℤ con) → g1 ≤ℤ (g *ℤ row) →
        (q *ℤ (m *ℤ (n *ℤ f1 +ℤ h1) +ℤ k *ℤ (y *ℤ g1))) ≤ℤ (q *ℤ (limit *ℤ h *ℤ (n *ℤ lin +ℤ con +ℤ y *ℤ row)))
    closed q limit h k g n y f1 h1 g1 lin con row pq pl pk pn py same is a b e = rw same
        (mul-le-mul_left_z q pq (le_same refl (sym (ring limit h n lin con y row k g is))
        (add-le-add_z (mul-le-mul_left_z limit pl (add-le-add_z (mul-le-mul_left_z n pn a) b)) (mul-le-mul_left_z k pk (mul-le-mul_left_z y py e)))))
      where
        ring : (limit h n lin con y row k g : ℤ) → k *ℤ g ≡ limit *ℤ h →
            limit *ℤ (n *ℤ (h *ℤ lin) +ℤ h *ℤ con) +ℤ k *ℤ (y *ℤ (g *ℤ row)) ≡ limit *ℤ h *ℤ (n *ℤ lin +ℤ con +ℤ y *ℤ row)
        ring limit h n lin con y row k g is =
            let turn : k *ℤ (y *ℤ (g *ℤ row)) ≡ (k *ℤ g) *ℤ (y *ℤ row) = by_ring (k ∷ y ∷ g ∷ row ∷ []) (search quotes depth 60 fits 20000) refl in
            rw (turn, is) (by_ring (limit ∷ h ∷ n ∷ lin ∷ con ∷ y ∷ row ∷ []) (search quotes depth 60 fits 20000) refl)

pub plan_small : (d : Design) (h : Form) (r : ℕ) (c : Numbers) (x l : List ℤ) → IsFormFor d (counted d h) → IsDerivedFrom d (counted d h) r c → IsShaped c → AreReached d r c x l →
    IsSound d (input_floor d) → IsCondensed d (condensed_of d) → (j : ℕ) → j < entries d →
    unsigned_abs (plan_entry c x l j) ≤ plan_bound (error_sums_of d (counted d h) r) c.fraction_bits * 2 ^ c.fraction_bits
plan_small d h r c x l form made shaped reached sound condensed j inside =
    last (unsigned_abs (plan_entry c x l j)) (plan_bound (error_sums_of d (counted d h) r) c.fraction_bits) (2 ^ c.fraction_bits)
    (plan_closed (pos d.limit_denominator) (pos h.hessian_scale) (pos d.cost_denominator) (pos (input_floor d)) (pos h.spread) (pos (2 ^ (c.fraction_bits + c.step_exponent)))
    (pos (2 ^ c.fraction_bits)) (pos (state_bound d)) (pos (linear_sum (counted d h))) (pos (constant_sum (counted d h))) (pos (2 * r)) (pos (plan_row_sum (counted d h))) (pos (trace_sum (counted d h)))
    (pos (combined_bound d r))
    (absolute sum) (absolute (plan_entry c x l j)) weight (total (entries d) (λ j. solve_matrix h j j)) reach (pos (error_sums_of d (counted d h) r).lead) (pos extra)
    (pos_positive d.limit_denominator sound.limit_denominator) (pos_positive h.hessian_scale form.hessian_some) (pos_positive (input_floor d) sound.rho_positive)
    (pos_positive (2 ^ (c.fraction_bits + c.step_exponent)) (pow_positive 2 (c.fraction_bits + c.step_exponent) (omega arith)))
    (let o = pow_positive 2 c.fraction_bits (omega arith) in omega (arith, ints, o))
    (total_nonneg (entries d) (λ j. solve_matrix h j j) diagonal) (omega (arith, ints)) (omega (arith, ints)) (omega (arith, ints)) main
    (weight_le d h r c x l made.sizes reached form) (trace_le d h form.matrix_factor form.hessian_some) reach_le rounding_le
    (rounded_up (plan_pull d (counted d h) r) (2 * input_floor d) (let o = sound.rho_positive in omega (arith, o))) extra_le)
  where
    column_in : (i : ℕ) → i < c.states + 1 + c.rows → i < columns (counted d h)
    column_in i h = omega (arith, h, made.sizes.states, made.sizes.rows)

    diagonal : (j : ℕ) → j < entries d → pos 0 ≤ℤ solve_matrix h j j
    diagonal j k = within_nonneg (good_within (entries d) (solve_matrix h) c.fraction_bits (solve_column (counted d h) 0) (gain_column c 0) (made.gains 0 (column_in 0 (omega arith))) j k)

    sum : ℤ
    sum = image (c.states + 1 + c.rows) (λ j i. gain_column c i j) (pulls c x l) j

    weight : ℤ
    weight = total (c.states + 1 + c.rows) (λ i. total (entries d) (λ j. absolute (solve_column (counted d h) i j)) *ℤ absolute (pulls c x l i))

    reach : ℤ
    reach = total (c.states + 1 + c.rows) (λ i. absolute (pulls c x l i))

    extra : ℕ
    extra = ceil_div (error_sums_of d (counted d h) r).tail (2 ^ (c.fraction_bits + 2) * input_floor d)

    main : (pos 2 *ℤ (pos 2 *ℤ pos d.limit_denominator *ℤ pos h.hessian_scale *ℤ pos (input_floor d)) *ℤ absolute sum) ≤ℤ
        (pos h.spread *ℤ pos d.cost_denominator *ℤ (pos 2 *ℤ pos (2 ^ c.fraction_bits) *ℤ weight +ℤ total (entries d) (λ j. solve_matrix h j j) *ℤ reach))
    main = solutions_sum (entries d) (c.states + 1 + c.rows) (solve_matrix h) c.fraction_bits (solve_column (counted d h)) (gain_column c) (pulls c x l)
        (pos 2 *ℤ pos d.limit_denominator *ℤ pos h.hessian_scale *ℤ pos (input_floor d)) (pos h.spread *ℤ pos d.cost_denominator) (omega (arith, ints)) (omega (arith, ints))
        (solve_matrix_convex d h sound condensed form) (λ i k. made.gains i (column_in i k)) j inside

    reach_le : reach ≤ℤ (pos (2 ^ (c.fraction_bits + c.step_exponent)) *ℤ pos (combined_bound d r))
    reach_le = let e = made.sizes.states in let f = made.sizes.rows in
        le_same refl (ap (λ (n : ℕ). pos (2 ^ (c.fraction_bits + c.step_exponent)) *ℤ pos n) (let z : combined_bound d r ≡ c.states * state_bound d + 1 + c.rows * (2 * r) = rw (e, f) refl in z))
        (pulls_reach c x l (state_bound d) (2 * r) reached.state reached.multipliers)

    rounding_le : (pos (2 ^ (c.fraction_bits + c.step_exponent)) *ℤ absolute (plan_entry c x l j)) ≤ℤ (absolute sum +ℤ pos (2 ^ (c.fraction_bits + c.step_exponent)))
    rounding_le =
        let k = plan_entry_is c x l j shaped reached.state_length reached.multiplier_length (rw (length_is d h r c x l made shaped reached) inside) in
        le_same (sym (absolute_mul (pos (2 ^ (c.fraction_bits + c.step_exponent))) (plan_entry c x l j))) refl
        (near (pos (2 ^ (c.fraction_bits + c.step_exponent)) *ℤ plan_entry c x l j) (image (c.states + 1 + c.rows) (λ j i. gain_column c i j) (pulls c x l) j) (2 ^ (c.fraction_bits + c.step_exponent)) k.0 k.1)
      where
        near : (t s : ℤ) (q : ℕ) → pos 0 ≤ℤ (t +ℤ s) → (t +ℤ s) ≤ℤ pos q → absolute t ≤ℤ (absolute s +ℤ pos q)
        near t s q h k = omega (arith, ints, h, k)

    extra_le : (pos d.cost_denominator *ℤ pos (combined_bound d r) *ℤ pos (trace_sum (counted d h))) ≤ℤ
        (pos 4 *ℤ pos (2 ^ c.fraction_bits) *ℤ pos (input_floor d) *ℤ pos extra)
    extra_le = le_same refl (ap (λ (n : ℕ). pos (n * input_floor d) *ℤ pos extra) four_times)
        (rounded_up (error_sums_of d (counted d h) r).tail (2 ^ (c.fraction_bits + 2) * input_floor d)
        (positive_product (2 ^ (c.fraction_bits + 2)) (input_floor d) (pow_positive 2 (c.fraction_bits + 2) (omega arith)) sound.rho_positive))
      where
        four_times : 4 * 2 ^ c.fraction_bits ≡ 2 ^ (c.fraction_bits + 2)
        four_times = let e = pow-add 2 c.fraction_bits 2 in rw e (omega arith)

    last : (u b f : ℕ) → pos u ≤ℤ (pos f *ℤ pos b) → u ≤ b * f
    last u b f h = omega (arith, ints, h)
