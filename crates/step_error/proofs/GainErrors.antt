-- What the residuals of all gains come to in the gradient, where the state and the multipliers are as far from 0 as they get.
use Rattle.std.proofs.Common.{◌≡◌, ℕ, zero, suc, ◌+◌, ◌*◌, ◌^◌, ◌<◌, ◌≤◌, [], ◌∷◌, ℤ, pos, ◌+ℤ◌, ◌-ℤ◌, ◌*ℤ◌, ◌≤ℤ◌, List, unsigned_abs, arith, ap, subst, ◌∙◌, refl}
use Rattle.std.proofs.lemmas.Int.{ints}
use Rattle.std.proofs.Math.Nat.{mul-le-mul_left, one-le-mul}
use Rattle.integer_algebra.specs.Sums.{total, image}
use Rattle.integer_algebra.specs.Sizes.{size, amount}
use Rattle.integer_algebra.specs.Bounds.{absolute, IsWithin}
use Rattle.integer_algebra.specs.Division.{ceil_div}
use Rattle.integer_algebra.proofs.BoundLaws.{within_more}
use Rattle.integer_algebra.proofs.DivisionLaws.{le-mul-ceil_div}
use Rattle.integer_algebra.proofs.OrderLaws.{le_by}
use Rattle.integer_algebra.proofs.Quoting.{by_ring, quotes}
use Rattle.qp_model.specs.problem.Design.{Design, entries, rows}
use Rattle.qp_model.specs.form.Form.{Form, farthest}
use Rattle.qp_model.specs.form.Columns.{solve_matrix, solve_column}
use Rattle.qp_model.specs.machine.Controller.{Numbers, IsShaped}
use Rattle.qp_model.specs.machine.Machine.{plan_entry}
use Rattle.qp_model.specs.bounds.Built.{gain_column, IsDerivedFrom}
use Rattle.qp_model.specs.bounds.Errors.{state_bound}
use Rattle.qp_model.specs.bounds.RealErrors.{gain_residual, gain_error, residual_gradient}
use Rattle.step_error.specs.Carried.{AreNear, IsRounded}
use Rattle.step_error.specs.Machine.{pulls}
use Rattle.step_error.proofs.Forms.{counted}
use Rattle.step_error.proofs.CarriedLaws.{gradient}
use Rattle.step_error.proofs.Gains.{over_columns, own_pull, row_pull, plan_entry_is}
use Rattle.step_error.proofs.Pulls.{state_pull_reach}
use Rattle.step_error.proofs.Gradients.{AreReached, length_is}
use Rattle.step_error.proofs.Slopes.{IsMiddle, middle_from, total_absolute, size_factor, size_farthest}

-- ---- residuals, each times a number
-- of columns whose numbers are at most b times w
weighted : (n b w : ℕ) (g : ℕ → ℕ) (p : ℕ → ℤ) → ((i : ℕ) → i < n → absolute (p i) ≤ℤ pos (b * w)) →
    total n (λ i. pos (2 * g i) *ℤ absolute (p i)) ≤ℤ pos (2 * (b * w) * amount n g)
weighted zero b w g p h = omega (arith, ints)
weighted (suc n) b w g p h = more (total n (λ i. pos (2 * g i) *ℤ absolute (p i))) (b * w) (amount n g) (g n) (unsigned_abs (p n))
    (weighted n b w g p (λ i l. h i (omega (arith, l)))) (h n (omega arith))
  where
    more : (t : ℤ) (top a g m : ℕ) → t ≤ℤ pos (2 * top * a) → pos m ≤ℤ pos top → (t +ℤ pos (2 * g) *ℤ pos m) ≤ℤ pos (2 * top * (a + g))
    more t top a g m h k = let l : m ≤ top = omega (arith, ints, k) in let o = mul-le-mul_left (2 * g) l in omega (arith, ints, h, o)

-- of all columns: n for the state's numbers, up to b, that for 1, and m for the multipliers, up to y, over w
pub columns_weighted : (n m b y w : ℕ) (g : ℕ → ℕ) (p : ℕ → ℤ) → ((i : ℕ) → i < n → absolute (p i) ≤ℤ pos (b * w)) → p n ≡ pos w →
    ((i : ℕ) → i < m → absolute (p (n + 1 + i)) ≤ℤ pos (y * w)) →
    total (n + 1 + m) (λ i. pos (2 * g i) *ℤ absolute (p i)) ≤ℤ (pos w *ℤ pos (2 * (b * amount n g + g n + y * amount m (λ i. g (n + 1 + i)))))
columns_weighted n m b y w g p states own rows =
    rw (over_columns n m (λ i. pos (2 * g i) *ℤ absolute (p i)), own)
    (summed _ _ w b y (amount n g) (g n) (amount m (λ i. g (n + 1 + i))) (weighted n b w g p states) (weighted m y w (λ i. g (n + 1 + i)) (λ i. p (n + 1 + i)) rows))
  where
    summed : (s t : ℤ) (w b y a o e : ℕ) → s ≤ℤ pos (2 * (b * w) * a) → t ≤ℤ pos (2 * (y * w) * e) →
        (s +ℤ pos (2 * o) *ℤ pos w +ℤ t) ≤ℤ (pos w *ℤ pos (2 * (b * a + o + y * e)))
    summed s t w b y a o e h k = omega (arith, ints, h, k)

-- ---- the gradient that the systems have
-- numbers alone: a row of the hessian, and what the residuals come to
system_bound : (limit scale s s' e : ℕ) → 0 < limit → 0 < scale → s ≤ s' →
    2 * (limit * s) + 2 * e ≤ 2 * (limit * scale * (ceil_div e (limit * scale) + ceil_div s' scale))
system_bound limit scale s s' e pl ps h =
    let a = le-mul-ceil_div e (limit * scale) (one-le-mul pl ps) in
    let b = mul-le-mul_left (2 * limit) (le-mul-ceil_div s' scale ps) in
    let k = mul-le-mul_left (2 * limit) h in
    omega (arith, a, b, k)

module _ (d : Design) (h : Form) (r : ℕ) (c : Numbers) (x l : List ℤ) (made : IsDerivedFrom d (counted d h) r c) (shaped : IsShaped c) (reached : AreReached d r c x l) where
  abbrev plan : ℕ → ℤ
  plan j = plan_entry c x l j

  abbrev unit : ℕ
  unit = 2 ^ (c.fraction_bits + c.step_exponent)

  abbrev gradient_column : ℕ → ℕ → ℤ
  gradient_column j i = solve_column (counted d h) i j

  abbrev missed : ℕ → ℕ → ℕ
  missed i j = gain_residual (counted d h) c i j

  near : AreNear (entries d) (c.states + 1 + c.rows) (solve_matrix h) (λ j i. gain_column c i j) gradient_column (pos (2 ^ c.fraction_bits)) (λ j i. pos (2 * missed i j))
  near i j k m = twice (image (entries d) (solve_matrix h) (gain_column c i) j -ℤ pos (2 ^ c.fraction_bits) *ℤ solve_column (counted d h) i j)
    where
      twice : (z : ℤ) → IsWithin (pos (2 * unsigned_abs z)) (pos 2 *ℤ z)
      twice z = record { below = omega (arith, ints); above = omega (arith, ints) }

  rounded : IsRounded (entries d) (c.states + 1 + c.rows) (λ j i. gain_column c i j) (pos unit) (pulls c x l) plan
  rounded j k = plan_entry_is c x l j shaped reached.state_length reached.multiplier_length (rw (length_is d h r c x l made shaped reached) k)

  pulled : (j : ℕ) → total (c.states + 1 + c.rows) (λ i. pos (2 * missed i j) *ℤ absolute (pulls c x l i)) ≤ℤ (pos unit *ℤ pos (2 * gain_error d (counted d h) r c j))
  pulled j =
      subst (λ (n : ℕ). total (c.states + 1 + c.rows) (λ i. pos (2 * missed i j) *ℤ absolute (pulls c x l i)) ≤ℤ (pos unit *ℤ pos (2 * n)))
      (counts (state_bound d) (2 * r) _ _ _ _ (λ i. missed i j) made.sizes.states made.sizes.rows)
      (columns_weighted c.states c.rows (state_bound d) (2 * r) unit (λ i. missed i j) (pulls c x l)
      (λ i k. state_pull_reach c x l (state_bound d) i k (reached.state i k)) (own_pull c x l)
      (λ i k. rw (row_pull c x l i) (let m = reached.multipliers i k in omega (arith, ints, m))))
    where
      counts : (b y n m n' m' : ℕ) (g : ℕ → ℕ) → n ≡ n' → m ≡ m' → b * amount n g + g n + y * amount m (λ i. g (n + 1 + i)) ≡ b * amount n' g + g n' + y * amount m' (λ i. g (n' + 1 + i))
      counts b y n m n' m' g e f = rw (e, f) refl

  gradient_within : (j : ℕ) → j < entries d →
      IsWithin (pos unit *ℤ (pos 2 *ℤ total (entries d) (λ i. absolute (solve_matrix h j i)) +ℤ pos (2 * gain_error d (counted d h) r c j)))
      (pos 2 *ℤ (pos unit *ℤ image (entries d) (solve_matrix h) plan j +ℤ pos (2 ^ c.fraction_bits) *ℤ image (c.states + 1 + c.rows) gradient_column (pulls c x l) j))
  gradient_within j inside =
      within_more _ _ _
      (gradient (entries d) (c.states + 1 + c.rows) (solve_matrix h) (λ j i. gain_column c i j) gradient_column (λ j i. pos (2 * missed i j)) (pos (2 ^ c.fraction_bits)) (pos unit)
      (pulls c x l) plan near rounded j inside)
      (bounded (total (entries d) (λ i. absolute (solve_matrix h j i))) unit (2 * gain_error d (counted d h) r c j) _ (pulled j))
    where
      bounded : (t : ℤ) (s e : ℕ) (w : ℤ) → w ≤ℤ (pos s *ℤ pos e) → (pos 2 *ℤ (pos s *ℤ t) +ℤ w) ≤ℤ (pos s *ℤ (pos 2 *ℤ t +ℤ pos e))
      bounded t s e w k = le_by k (by_ring (t ∷ pos s ∷ pos e ∷ w ∷ []) (search quotes depth 60 fits 20000) refl)

  -- it is within what the residuals come to
  pub real_middle : h.matrix_factor ≡ pos d.limit_denominator → 0 < d.limit_denominator → 0 < h.hessian_scale → IsMiddle d h c x l (residual_gradient d (counted d h) r c)
  real_middle factor some p j inside =
      middle_from d h c x l (residual_gradient d (counted d h) r c) j _ (gradient_within j inside)
      (rw (row_is, factor_is) (closed _ _ _ (system_bound d.limit_denominator h.hessian_scale (size (entries d) (h.numbers.hessian j))
      (amount (entries d) (λ l. farthest (h.numbers.hessian j l) (h.hessian_radius j l))) (gain_error d (counted d h) r c j) some p
      (size_farthest (entries d) (h.numbers.hessian j) (h.hessian_radius j)))))
    where
      row_is : total (entries d) (λ i. absolute (solve_matrix h j i)) ≡ pos (d.limit_denominator * size (entries d) (h.numbers.hessian j))
      row_is = total_absolute (entries d) (solve_matrix h j) ∙ ap pos (size_factor (entries d) d.limit_denominator h.matrix_factor (h.numbers.hessian j) factor)

      factor_is : unsigned_abs h.matrix_factor ≡ d.limit_denominator
      factor_is = ap unsigned_abs factor

      closed : (a b t : ℕ) → 2 * a + 2 * b ≤ 2 * t → (pos 2 *ℤ pos a +ℤ pos (2 * b)) ≤ℤ pos (2 * t)
      closed a b t h = omega (arith, ints, h)
