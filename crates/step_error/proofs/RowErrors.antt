-- The residual that a step of the machine uses, against the true one.
use Rattle.std.proofs.Common.{◌≡◌, ℕ, ◌+◌, ◌-◌, ◌*◌, ◌^◌, ◌<◌, ◌≤◌, [], ◌∷◌, ℤ, pos, ◌+ℤ◌, ◌-ℤ◌, ◌*ℤ◌, neg_ℤ, ◌≤ℤ◌, ◌<ℤ◌, List, length, unsigned_abs, arith, ap, sym, ◌∙◌, refl}
use Rattle.std.proofs.lemmas.Int.{ints}
use Rattle.std.proofs.lemmas.Nat.{pow-add}
use Rattle.std.proofs.lemmas.List.FromFn.{length-map-range_with_len, get_or-map-range_with_len}
use Rattle.std.proofs.Math.Nat.{mul_comm}
use Rattle.integer_algebra.specs.Sums.{total, dot, image, at}
use Rattle.integer_algebra.specs.Bounds.{absolute, IsWithin}
use Rattle.integer_algebra.specs.Division.{floor_of}
use Rattle.integer_algebra.proofs.OrderLaws.{le_by, mul-le-mul_left_z}
use Rattle.integer_algebra.proofs.SumLaws.{total_same, total_scale, total_mono, total_const}
use Rattle.integer_algebra.proofs.VectorLaws.{dot_same}
use Rattle.integer_algebra.proofs.BoundLaws.{within_more, within_sum, within_neg, within_double}
use Rattle.integer_algebra.proofs.PowerLaws.{pow_positive}
use Rattle.integer_algebra.proofs.Quoting.{by_ring, quotes}
use Rattle.mat_int.specs.Matrix.{row_of, entry_of}
use Rattle.mat_int.proofs.Indices.{dot_is}
use Rattle.qp_model.specs.problem.Design.{Design, entries, rows}
use Rattle.qp_model.specs.problem.Residual.{residual, residual_scale}
use Rattle.qp_model.specs.form.Condensed.{IsCondensed}
use Rattle.qp_model.specs.form.Condensing.{condensed_of}
use Rattle.qp_model.specs.machine.Controller.{Numbers, IsShaped, plan_length}
use Rattle.qp_model.specs.machine.Machine.{plan_entry, plan_of, row_sum}
use Rattle.qp_model.specs.form.Form.{Form, IsFormFor, rows_scale, plan_radii, state_radii}
use Rattle.qp_model.specs.bounds.Errors.{state_bound}
use Rattle.qp_model.specs.bounds.Built.{IsDerivedFrom}
use Rattle.step_error.proofs.Forms.{counted, dot_apart}
use Rattle.step_error.proofs.Gains.{row_length}
use Rattle.step_error.proofs.Slopes.{within_cancel, within_factor, within_same}
use Rattle.step_error.proofs.Residuals.{rounded_dot, rounded_within, floor_within}

-- ---- the plan as a list
pub plan_at : (c : Numbers) (x l : List ℤ) (j : ℕ) → j < length c.offsets → at (plan_of c x l) j ≡ plan_entry c x l j
plan_at c x l j h = get_or-map-range_with_len (plan_entry c x l) 0 (length c.offsets) j j (pos 0) h (omega arith)

pub plan_length_is : (c : Numbers) (x l : List ℤ) → length (plan_of c x l) ≡ length c.offsets
plan_length_is c x l = length-map-range_with_len (plan_entry c x l) 0 (length c.offsets)

-- ---- a row's sum, over indices
pub row_sum_is : (c : Numbers) (x l : List ℤ) (i : ℕ) → IsShaped c → length x ≡ c.states → i < c.rows →
    row_sum c x (plan_of c x l) i ≡ dot (plan_length c) (entry_of c.plan_rows i) (plan_entry c x l) +ℤ dot c.states (entry_of c.state_rows i) (at x) -ℤ at c.bounds i *ℤ pos (2 ^ c.fraction_bits)
row_sum_is c x l i shaped hx inside =
    let g = row_length c.plan_rows c.rows (plan_length c) i shaped.plan_rows inside in
    let e = row_length c.state_rows c.rows c.states i shaped.state_rows inside in
    let p : length (plan_of c x l) ≡ plan_length c = plan_length_is c x l ∙ shaped.offsets in
    rw (dot_is (plan_length c) (row_of c.plan_rows i) (plan_of c x l) g p, dot_is c.states (row_of c.state_rows i) x e hx)
    (ap (λ (z : ℤ). z +ℤ dot c.states (entry_of c.state_rows i) (at x) -ℤ at c.bounds i *ℤ pos (2 ^ c.fraction_bits))
    (dot_same (plan_length c) (entry_of c.plan_rows i) (at (plan_of c x l)) (plan_entry c x l) (λ j h. plan_at c x l j (rw shaped.offsets h))))

-- ---- numbers alone
-- the three roundings and the floor together: w is the floor of the row's sum, k is what the plan and the state come to
row_closed : (d f gu ex b gr er br w su sx k : ℤ) → pos 0 <ℤ f → pos 0 ≤ℤ d →
    IsWithin (d *ℤ su) (pos 2 *ℤ (d *ℤ gr -ℤ f *ℤ gu)) → IsWithin (d *ℤ sx) (pos 2 *ℤ (d *ℤ er -ℤ f *ℤ ex)) → IsWithin d (pos 2 *ℤ (br *ℤ d -ℤ f *ℤ b)) →
    IsWithin f (f *ℤ w -ℤ (gr +ℤ er -ℤ br *ℤ f)) → (su +ℤ sx) ≤ℤ (f *ℤ k) →
    IsWithin (d *ℤ (k +ℤ pos 3)) (pos 2 *ℤ (d *ℤ w -ℤ (gu +ℤ ex -ℤ f *ℤ b)))
row_closed d f gu ex b gr er br w su sx k pf pd hg he hb hw hk =
    let moved = within_factor (pos 2 *ℤ d) f (f *ℤ w -ℤ (gr +ℤ er -ℤ br *ℤ f)) (twice d pd) hw in
    let bounds = within_neg (f *ℤ d) (f *ℤ (pos 2 *ℤ (br *ℤ d -ℤ f *ℤ b))) (within_factor f d (pos 2 *ℤ (br *ℤ d -ℤ f *ℤ b)) (less f pf) hb) in
    let all = within_sum _ _ _ _ moved (within_sum _ _ _ _ (within_sum _ _ _ _ hg he) bounds) in
    within_cancel f (d *ℤ (k +ℤ pos 3)) (pos 2 *ℤ (d *ℤ w -ℤ (gu +ℤ ex -ℤ f *ℤ b))) pf
    (within_more _ _ _ (within_same refl (sum_is d f gu ex b gr er br w) all) (le_by (mul-le-mul_left_z d pd hk) (sym (bound_is d f su sx k))))
  where
    twice : (d : ℤ) → pos 0 ≤ℤ d → pos 0 ≤ℤ (pos 2 *ℤ d)
    twice d h = omega (arith, ints)

    less : (f : ℤ) → pos 0 <ℤ f → pos 0 ≤ℤ f
    less f h = omega (arith, ints)

    sum_is : (d f gu ex b gr er br w : ℤ) →
        (pos 2 *ℤ d) *ℤ (f *ℤ w -ℤ (gr +ℤ er -ℤ br *ℤ f)) +ℤ ((pos 2 *ℤ (d *ℤ gr -ℤ f *ℤ gu) +ℤ pos 2 *ℤ (d *ℤ er -ℤ f *ℤ ex)) +ℤ neg_ℤ (f *ℤ (pos 2 *ℤ (br *ℤ d -ℤ f *ℤ b)))) ≡
        f *ℤ (pos 2 *ℤ (d *ℤ w -ℤ (gu +ℤ ex -ℤ f *ℤ b)))
    sum_is d f gu ex b gr er br w = by_ring (d ∷ f ∷ gu ∷ ex ∷ b ∷ gr ∷ er ∷ br ∷ w ∷ []) (search quotes depth 90 fits 20000) refl

    bound_is : (d f su sx k : ℤ) →
        (pos 2 *ℤ d) *ℤ f +ℤ ((d *ℤ su +ℤ d *ℤ sx) +ℤ f *ℤ d) +ℤ d *ℤ (f *ℤ k) ≡ f *ℤ (d *ℤ (k +ℤ pos 3)) +ℤ d *ℤ (su +ℤ sx)
    bound_is d f su sx k = by_ring (d ∷ f ∷ su ∷ sx ∷ k ∷ []) (search quotes depth 60 fits 20000) refl

-- ---- the residual in the design's words
-- a sum of absolute values, each at most b times f
reach_total : (n b f : ℕ) (u : ℕ → ℤ) → ((j : ℕ) → j < n → unsigned_abs (u j) ≤ b * f) → total n (λ j. absolute (u j)) ≤ℤ (pos f *ℤ pos (n * b))
reach_total n b f u h = rw (← same) (rw (← (total_const n (pos (b * f)))) (total_mono n (λ j. absolute (u j)) (λ j. pos (b * f)) (λ j l. let k = h j l in omega (arith, ints, k))))
  where
    same : pos n *ℤ pos (b * f) ≡ pos f *ℤ pos (n * b)
    same = let e : n * (b * f) ≡ f * (n * b) = omega arith in ap pos e

-- from the midpoints' row to the exact one, by numbers alone: w is 2^grid, g the scale of the form's rows and g' that of the design's, f the fraction
exact_closed : (w g g' f k u y pr sr v gm em bm gx ex bx : ℤ) {scale res : ℤ} → pos 0 ≤ℤ w → pos 0 ≤ℤ g' → g *ℤ bx ≡ g' *ℤ bm → scale ≡ w *ℤ g' →
    res ≡ w *ℤ (gx +ℤ ex -ℤ f *ℤ bx) → IsWithin (g *ℤ k) (pos 2 *ℤ (g *ℤ v -ℤ (gm +ℤ em -ℤ f *ℤ bm))) →
    IsWithin (g' *ℤ (u *ℤ f *ℤ pr)) (g *ℤ gx -ℤ g' *ℤ gm) → IsWithin (g' *ℤ (y *ℤ f *ℤ sr)) (g *ℤ ex -ℤ g' *ℤ em) →
    IsWithin (scale *ℤ (g *ℤ k +ℤ pos 2 *ℤ f *ℤ (u *ℤ pr +ℤ y *ℤ sr))) (pos 2 *ℤ g *ℤ (scale *ℤ v -ℤ res))
exact_closed w g g' f k u y pr sr v gm em bm gx ex bx pw pg same is res_is middle plan state = rw (is, res_is)
    (within_same bound_is value_is (within_factor w _ _ pw (within_sum _ _ _ _ (within_factor g' _ _ pg middle)
    (within_neg _ _ (within_double _ _ (within_sum _ _ _ _ plan state))))))
  where
    bound_is : w *ℤ (g' *ℤ (g *ℤ k) +ℤ pos 2 *ℤ (g' *ℤ (u *ℤ f *ℤ pr) +ℤ g' *ℤ (y *ℤ f *ℤ sr))) ≡ w *ℤ g' *ℤ (g *ℤ k +ℤ pos 2 *ℤ f *ℤ (u *ℤ pr +ℤ y *ℤ sr))
    bound_is = by_ring (w ∷ g ∷ g' ∷ f ∷ k ∷ u ∷ y ∷ pr ∷ sr ∷ []) (search quotes depth 60 fits 20000) refl

    apart : w *ℤ (g' *ℤ (pos 2 *ℤ (g *ℤ v -ℤ (gm +ℤ em -ℤ f *ℤ bm))) +ℤ neg_ℤ (pos 2 *ℤ ((g *ℤ gx -ℤ g' *ℤ gm) +ℤ (g *ℤ ex -ℤ g' *ℤ em)))) ≡
        pos 2 *ℤ (w *ℤ (g' *ℤ g *ℤ v -ℤ g *ℤ gx -ℤ g *ℤ ex +ℤ f *ℤ (g' *ℤ bm)))
    apart = by_ring (w ∷ g ∷ g' ∷ f ∷ v ∷ gm ∷ em ∷ bm ∷ gx ∷ ex ∷ []) (search quotes depth 90 fits 20000) refl

    joined : pos 2 *ℤ (w *ℤ (g' *ℤ g *ℤ v -ℤ g *ℤ gx -ℤ g *ℤ ex +ℤ f *ℤ (g *ℤ bx))) ≡ pos 2 *ℤ g *ℤ (w *ℤ g' *ℤ v -ℤ w *ℤ (gx +ℤ ex -ℤ f *ℤ bx))
    joined = by_ring (w ∷ g ∷ g' ∷ f ∷ v ∷ gx ∷ ex ∷ bx ∷ []) (search quotes depth 90 fits 20000) refl

    value_is : w *ℤ (g' *ℤ (pos 2 *ℤ (g *ℤ v -ℤ (gm +ℤ em -ℤ f *ℤ bm))) +ℤ neg_ℤ (pos 2 *ℤ ((g *ℤ gx -ℤ g' *ℤ gm) +ℤ (g *ℤ ex -ℤ g' *ℤ em)))) ≡
        pos 2 *ℤ g *ℤ (w *ℤ g' *ℤ v -ℤ w *ℤ (gx +ℤ ex -ℤ f *ℤ bx))
    value_is = apart ∙ ap (λ (z : ℤ). pos 2 *ℤ (w *ℤ (g' *ℤ g *ℤ v -ℤ g *ℤ gx -ℤ g *ℤ ex +ℤ f *ℤ z))) (sym same) ∙ joined

-- the residual used against the exact one at the plan, whose entries are at most u
pub row_within : (d : Design) (h : Form) (r : ℕ) (c : Numbers) (x l : List ℤ) (xi : ℕ → ℤ) (u : ℕ) → IsFormFor d (counted d h) → IsDerivedFrom d (counted d h) r c → IsShaped c →
    length x ≡ c.states → IsCondensed d (condensed_of d) → c.grid_bits ≤ c.fraction_bits →
    ((i : ℕ) → i < c.states → at x i ≡ xi i *ℤ pos (2 ^ (c.fraction_bits - c.grid_bits))) →
    ((i : ℕ) → i < c.states → unsigned_abs (at x i) ≤ state_bound d * 2 ^ c.fraction_bits) →
    ((j : ℕ) → j < entries d → unsigned_abs (plan_entry c x l j) ≤ u * 2 ^ c.fraction_bits) → (i : ℕ) → i < rows d →
    IsWithin (pos (residual_scale d) *ℤ (pos h.rows_scale *ℤ pos (entries d * u + d.states * state_bound d + 3) +ℤ
    pos 2 *ℤ pos (2 ^ c.fraction_bits) *ℤ (pos u *ℤ pos (plan_radii (counted d h) i) +ℤ pos (state_bound d) *ℤ pos (state_radii (counted d h) i))))
    (pos 2 *ℤ pos h.rows_scale *ℤ (pos (residual_scale d) *ℤ floor_of (row_sum c x (plan_of c x l) i) (2 ^ c.fraction_bits) -ℤ
    residual d (pos (2 ^ c.fraction_bits)) xi (plan_entry c x l) i))
row_within d h r c x l xi u form made shaped hx condensed le scaled reach small i inside =
    exact_closed (pos (2 ^ d.grid)) (pos h.rows_scale) (pos (rows_scale d)) (pos (2 ^ c.fraction_bits)) (pos (entries d * u + d.states * state_bound d + 3)) (pos u) (pos (state_bound d))
    (pos (plan_radii (counted d h) i)) (pos (state_radii (counted d h) i)) (floor_of (row_sum c x (plan_of c x l) i) (2 ^ c.fraction_bits))
    (dot (entries d) (h.numbers.by_plan i) (plan_entry c x l)) (dot d.states (h.numbers.by_state i) (at x)) (h.numbers.bound i)
    (dot (entries d) ((condensed_of d).by_plan i) (plan_entry c x l)) (dot d.states ((condensed_of d).by_state i) (at x)) ((condensed_of d).bound i)
    (omega (arith, ints)) (omega (arith, ints)) (form.encloses.bound i inside) scale_is residual_is closed
    (dot_apart (entries d) (pos h.rows_scale) (pos (rows_scale d)) (rows_scale d) (u * 2 ^ c.fraction_bits) ((condensed_of d).by_plan i) (h.numbers.by_plan i) (plan_entry c x l)
    (h.plan_radius i) (λ j k. form.encloses.plan i j inside k) small)
    (dot_apart d.states (pos h.rows_scale) (pos (rows_scale d)) (rows_scale d) (state_bound d * 2 ^ c.fraction_bits) ((condensed_of d).by_state i) (h.numbers.by_state i) (at x)
    (h.state_radius i) (λ j k. form.encloses.state i j inside k) (λ j k. reach j (rw made.sizes.states k)))
  where
    scale_is : pos (residual_scale d) ≡ pos (2 ^ d.grid) *ℤ pos (rows_scale d)
    scale_is = factors (2 ^ d.grid) d.limit_denominator (d.plant_denominator ^ d.stages)
      where
        factors : (w m a : ℕ) → pos (m * w * a) ≡ pos w *ℤ pos (m * a)
        factors w m a = ap pos (let e : m * w * a ≡ w * (m * a) = omega arith in e)

    turn : (a b e : ℤ) → a *ℤ (b *ℤ e) ≡ e *ℤ (a *ℤ b)
    turn a b e = by_ring (a ∷ b ∷ e ∷ []) (search quotes depth 60 fits 20000) refl

    state_is : dot d.states ((condensed_of d).by_state i) (at x) ≡ pos (2 ^ (c.fraction_bits - c.grid_bits)) *ℤ image d.states (condensed_of d).by_state xi i
    state_is = total_same d.states _ _ (λ j h. rw (scaled j (rw made.sizes.states h)) (turn ((condensed_of d).by_state i j) (xi j) (pos (2 ^ (c.fraction_bits - c.grid_bits)))))
        ∙ total_scale d.states (pos (2 ^ (c.fraction_bits - c.grid_bits))) (λ j. (condensed_of d).by_state i j *ℤ xi j)

    split : 2 ^ c.fraction_bits ≡ 2 ^ d.grid * 2 ^ (c.fraction_bits - c.grid_bits)
    split = let e : c.fraction_bits ≡ d.grid + (c.fraction_bits - c.grid_bits) = omega (arith, made.sizes.grid) in
        ap (λ (n : ℕ). 2 ^ n) e ∙ pow-add 2 d.grid (c.fraction_bits - c.grid_bits)

    residual_is : residual d (pos (2 ^ c.fraction_bits)) xi (plan_entry c x l) i ≡
        pos (2 ^ d.grid) *ℤ (dot (entries d) ((condensed_of d).by_plan i) (plan_entry c x l) +ℤ dot d.states ((condensed_of d).by_state i) (at x) -ℤ pos (2 ^ c.fraction_bits) *ℤ (condensed_of d).bound i)
    residual_is = condensed.rows (pos (2 ^ c.fraction_bits)) xi (plan_entry c x l) i inside
        ∙ ring (pos (2 ^ d.grid)) (pos (2 ^ (c.fraction_bits - c.grid_bits))) (dot (entries d) ((condensed_of d).by_plan i) (plan_entry c x l)) (image d.states (condensed_of d).by_state xi i)
        ((condensed_of d).bound i) (ap pos split) state_is
      where
        ring : (w p gu ex b : ℤ) {f s : ℤ} → f ≡ w *ℤ p → s ≡ p *ℤ ex → w *ℤ gu +ℤ f *ℤ (ex -ℤ w *ℤ b) ≡ w *ℤ (gu +ℤ s -ℤ f *ℤ b)
        ring w p gu ex b h k = rw (h, k) (by_ring (w ∷ p ∷ gu ∷ ex ∷ b ∷ []) (search quotes depth 60 fits 20000) refl)

    total_is : (total (entries d) (λ j. absolute (plan_entry c x l j)) +ℤ total d.states (λ j. absolute (at x j))) ≤ℤ (pos (2 ^ c.fraction_bits) *ℤ pos (entries d * u + d.states * state_bound d))
    total_is = both _ _ (2 ^ c.fraction_bits) (entries d * u) (d.states * state_bound d) (reach_total (entries d) u (2 ^ c.fraction_bits) (plan_entry c x l) small)
        (reach_total d.states (state_bound d) (2 ^ c.fraction_bits) (at x) (λ j h. reach j (rw made.sizes.states h)))
      where
        both : (a b : ℤ) (f m n : ℕ) → a ≤ℤ (pos f *ℤ pos m) → b ≤ℤ (pos f *ℤ pos n) → (a +ℤ b) ≤ℤ (pos f *ℤ pos (m + n))
        both a b f m n h k = omega (arith, ints, h, k)

    nu_is : plan_length c ≡ entries d
    nu_is = let e = made.sizes.inputs in let f = made.sizes.stages in rw (e, f) (mul_comm d.inputs d.stages)

    row_in : i < c.rows
    row_in = rw made.sizes.rows inside

    positive : 0 < 2 ^ c.fraction_bits
    positive = pow_positive 2 c.fraction_bits (omega arith)

    sum_is : row_sum c x (plan_of c x l) i ≡ dot (entries d) (entry_of c.plan_rows i) (plan_entry c x l) +ℤ dot d.states (entry_of c.state_rows i) (at x) -ℤ at c.bounds i *ℤ pos (2 ^ c.fraction_bits)
    sum_is = row_sum_is c x l i shaped hx row_in ∙ ap (λ (n : ℕ). dot n (entry_of c.plan_rows i) (plan_entry c x l) +ℤ dot c.states (entry_of c.state_rows i) (at x) -ℤ at c.bounds i *ℤ pos (2 ^ c.fraction_bits)) nu_is
        ∙ ap (λ (n : ℕ). dot (entries d) (entry_of c.plan_rows i) (plan_entry c x l) +ℤ dot n (entry_of c.state_rows i) (at x) -ℤ at c.bounds i *ℤ pos (2 ^ c.fraction_bits)) made.sizes.states

    closed : IsWithin (pos h.rows_scale *ℤ (pos (entries d * u + d.states * state_bound d) +ℤ pos 3))
        (pos 2 *ℤ (pos h.rows_scale *ℤ floor_of (row_sum c x (plan_of c x l) i) (2 ^ c.fraction_bits) -ℤ
        (dot (entries d) (h.numbers.by_plan i) (plan_entry c x l) +ℤ dot d.states (h.numbers.by_state i) (at x) -ℤ pos (2 ^ c.fraction_bits) *ℤ h.numbers.bound i)))
    closed = row_closed (pos h.rows_scale) (pos (2 ^ c.fraction_bits)) (dot (entries d) (h.numbers.by_plan i) (plan_entry c x l)) (dot d.states (h.numbers.by_state i) (at x)) (h.numbers.bound i)
        (dot (entries d) (entry_of c.plan_rows i) (plan_entry c x l)) (dot d.states (entry_of c.state_rows i) (at x)) (at c.bounds i) (floor_of (row_sum c x (plan_of c x l) i) (2 ^ c.fraction_bits))
        (total (entries d) (λ j. absolute (plan_entry c x l j))) (total d.states (λ j. absolute (at x j))) (pos (entries d * u + d.states * state_bound d))
        (omega (arith, ints, positive)) (omega (arith, ints))
        (rounded_dot (entries d) (h.numbers.by_plan i) (entry_of c.plan_rows i) (plan_entry c x l) h.rows_scale (pos (2 ^ c.fraction_bits)) form.rows_some (λ j k. made.rows.plan_rows i j inside k))
        (rounded_dot d.states (h.numbers.by_state i) (entry_of c.state_rows i) (at x) h.rows_scale (pos (2 ^ c.fraction_bits)) form.rows_some (λ j k. made.rows.state_rows i j inside k))
        (rw (made.rows.bounds i inside) (rounded_within (pos (2 ^ c.fraction_bits) *ℤ h.numbers.bound i) h.rows_scale form.rows_some))
        (rw (← sum_is) (floor_within (row_sum c x (plan_of c x l) i) (2 ^ c.fraction_bits) positive))
        total_is
