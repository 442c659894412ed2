-- The numbers of the machine over one denominator, and the errors of one step there.
use Rattle.std.proofs.Common.{◌≡◌, ℕ, zero, suc, ◌+◌, ◌*◌, ◌^◌, ◌<◌, ◌≤◌, [], ◌∷◌, ℤ, pos, ◌+ℤ◌, ◌*ℤ◌, ◌≤ℤ◌, ◌<ℤ◌, arith, ap, sym, ◌∙◌, refl}
use Rattle.std.proofs.lemmas.Int.{ints}
use Rattle.std.proofs.lemmas.Nat.{pow-add}
use Rattle.std.proofs.Math.Nat.{mul-le-mul_left, mul-le-mul_right}
use Rattle.integer_algebra.specs.Sums.{total, dot, square}
use Rattle.integer_algebra.specs.Sizes.{amount}
use Rattle.integer_algebra.specs.Division.{ceil_div}
use Rattle.qp_model.specs.method.Dual.{InBox}
use Rattle.integer_algebra.proofs.OrderLaws.{le_by, pos_positive, mul-le-mul_left_z, mul_nonneg_z}
use Rattle.integer_algebra.proofs.SumLaws.{total_same}
use Rattle.integer_algebra.proofs.SizeLaws.{total_amount}
use Rattle.integer_algebra.proofs.VectorLaws.{dot_same, dot_scale, dot_scale_right}
use Rattle.integer_algebra.proofs.DivisionLaws.{le-mul-ceil_div}
use Rattle.integer_algebra.proofs.PowerLaws.{pow_positive, pow-two}
use Rattle.integer_algebra.proofs.Quoting.{by_ring, quotes}
use Rattle.qp_model.specs.problem.Design.{Design, entries, rows}
use Rattle.qp_model.specs.problem.Cost.{cost}
use Rattle.qp_model.specs.problem.Residual.{residual, IsFeasible}
use Rattle.qp_model.specs.problem.Sound.{IsSound}
use Rattle.qp_model.specs.form.Quantities.{input_floor}
use Rattle.qp_model.specs.machine.Controller.{Numbers}
use Rattle.qp_model.specs.form.Form.{Form, IsFormFor}
use Rattle.qp_model.specs.bounds.Errors.{gradient_squares, first_cost, radius_error, residual_error, row_radii, ErrorSums, error_sums_of, errors_cost, StepErrors, cost_of_errors}
use Rattle.qp_model.proofs.ScalingLaws.{scaling_law}
use Rattle.step_error.specs.Carried.{Misses}
use Rattle.step_error.specs.MachineLaws.{machine_scale, row_radius}
use Rattle.step_error.proofs.EntryLaws as laws
use Rattle.step_error.proofs.Forms.{all_radii, residual_radius, spread_of}
use Rattle.step_error.proofs.MachineSteps.{scale_over, units, gradient_over, misses_over}

-- ---- powers of two
pub scale_is : (f s : ℕ) → pos (2 ^ (f + s)) ≡ pos (2 ^ f) *ℤ pos (2 ^ s)
scale_is f s = ap pos (pow-add 2 f s)

pub power_positive : (f : ℕ) → pos 0 <ℤ pos (2 ^ f)
power_positive f = pos_positive (2 ^ f) (pow_positive 2 f (omega arith))

-- ---- the errors of one step
le_pos : {m n : ℕ} → m ≤ n → pos m ≤ℤ pos n
le_pos {m} {n} h = omega (arith, ints, h)

-- the squares of the gradient's errors
squares_are : (n g m f s q : ℕ) (e : ℕ → ℕ) →
    total n (λ j. square (pos 2 *ℤ (pos g *ℤ pos m) *ℤ pos (2 ^ 40 * 2 ^ s * e j + 2 ^ (f + s) * q))) ≡
    pos (amount n (λ j. (2 * g * (2 ^ s * m) * (2 ^ 40 * e j + 2 ^ f * q)) ^ 2))
squares_are n g m f s q e = total_same n _ _ (λ j l. each (2 ^ 40) (2 ^ s) (2 ^ f) (e j) (pow-add 2 f s)) ∙ total_amount n (λ j. (2 * g * (2 ^ s * m) * (2 ^ 40 * e j + 2 ^ f * q)) ^ 2)
  where
    each : (p s f e : ℕ) {w : ℕ} → w ≡ f * s → pos (2 * (g * m) * (p * s * e + w * q) * (2 * (g * m) * (p * s * e + w * q))) ≡ pos ((2 * g * (s * m) * (p * e + f * q)) ^ 2)
    each p s f e h = ap pos (rw (h, pow-two (2 * g * (s * m) * (p * e + f * q))) (ap (λ (z : ℕ). z * z) (same p s f e)))
      where
        same : (p s f e : ℕ) → 2 * (g * m) * (p * s * e + f * s * q) ≡ 2 * g * (s * m) * (p * e + f * q)
        same p s f e = omega arith

-- the residuals' errors, added up
misses_are : (n g m s k f t : ℕ) (radius : ℕ → ℕ) → amount n radius ≡ t →
    total n (λ i. pos (2 ^ 40) *ℤ pos m *ℤ pos (2 ^ s) *ℤ pos (g * k + 2 * 2 ^ f * radius i)) ≡ pos (2 ^ 40 * (2 ^ s * m) * (n * g * k + 2 * 2 ^ f * t))
misses_are n g m s k f t radius h =
    total_amount n (λ i. 2 ^ 40 * m * 2 ^ s * (g * k + 2 * 2 ^ f * radius i)) ∙ ap pos (summed n (2 ^ 40) (2 ^ s) (2 ^ f) radius
    ∙ ap (λ (z : ℕ). 2 ^ 40 * (2 ^ s * m) * (n * g * k + 2 * 2 ^ f * z)) h)
  where
    summed : (n p s f : ℕ) (radius : ℕ → ℕ) → amount n (λ i. p * m * s * (g * k + 2 * f * radius i)) ≡ p * (s * m) * (n * g * k + 2 * f * amount n radius)
    summed zero p s f radius = omega arith
    summed (suc n) p s f radius = omega (arith, summed n p s f radius)

-- over 2 * 2^40 * rows_scale * n times the machine's scale: what errors that cost `most` come to
abbrev pub most_over : Form → Numbers → ℕ → ℕ → ℤ
most_over h c n most = pos most *ℤ (pos 2 *ℤ (pos (2 ^ c.fraction_bits) *ℤ (pos (2 ^ c.step_exponent) *ℤ (pos h.rows_scale *ℤ pos n))))

-- those of the gradient count by a weight, and cost `first` over 4^fraction_bits
module _ (d : Design) (h : Form) (r : ℕ) (c : Numbers) (e : StepErrors) (most n weight first : ℕ) (well : IsSound d (input_floor d)) (form : IsFormFor d h)
    (squares : weight * gradient_squares d e.gradient ≤ 2 * input_floor d * first)
    (cheap : errors_cost (record (error_sums_of d h r) { weight_scale = weight }) first e.plan c.fraction_bits ≤ most) where
  abbrev sums : ErrorSums
  sums = error_sums_of d h r

  abbrev missed : Misses
  missed = record {
    entries = entries d;
    gradient = e.gradient;
    radius = radius_error sums e.plan;
    rows = rows d;
    error = residual_error sums e.plan;
    radii = row_radii sums e.plan;
    scale = h.rows_scale;
    spread = h.spread;
    spread_is = spread_of d h r e.plan well form;
  }

  -- their four sums are at most `most`
  sums_bounded :
      weight * amount (entries d) (λ j. (2 * h.rows_scale * (2 ^ c.step_exponent * n) * (2 ^ 40 * e.gradient j + 2 ^ c.fraction_bits * radius_error sums e.plan)) ^ 2) +
      2 * input_floor d * (2 * r * (2 * 2 ^ c.fraction_bits * 2 ^ 40 * h.rows_scale * (2 ^ c.step_exponent * n))) *
      (2 ^ 40 * (2 ^ c.step_exponent * n) * (rows d * h.rows_scale * residual_error sums e.plan + 2 * 2 ^ c.fraction_bits * row_radii sums e.plan)) ≤
      2 * input_floor d * (2 * 2 ^ c.fraction_bits * 2 ^ 40 * h.rows_scale * (2 ^ c.step_exponent * n)) * (most * (2 * 2 ^ c.fraction_bits * h.rows_scale * (2 ^ c.step_exponent * n)))
  sums_bounded =
      through (2 * input_floor d * (2 * 2 ^ c.fraction_bits * 2 ^ 40 * h.rows_scale * (2 ^ c.step_exponent * n))) (2 * 2 ^ c.fraction_bits * h.rows_scale * (2 ^ c.step_exponent * n)) cheap
      (laws.epsilon missed weight (input_floor d) (2 * r) c.fraction_bits first
      (ceil_div (h.spread * 2 ^ 40 * first) (4 ^ c.fraction_bits))
      (ceil_div (2 ^ 40 * sums.top_rows * residual_error sums e.plan) (2 ^ (c.fraction_bits + 1)))
      (ceil_div (sums.plan_entries * weight * radius_error sums e.plan ^ 2) (2 ^ 40 * sums.rho))
      (ceil_div (sums.top * row_radii sums e.plan) sums.row_scale) (2 ^ c.step_exponent * n)
      (record {
        squares = squares;
        gradients = le-mul-ceil_div (h.spread * 2 ^ 40 * first) (4 ^ c.fraction_bits) (pow_positive 4 c.fraction_bits (omega arith));
        residuals = le-mul-ceil_div (2 ^ 40 * sums.top_rows * residual_error sums e.plan) (2 ^ (c.fraction_bits + 1)) (pow_positive 2 (c.fraction_bits + 1) (omega arith));
        gradient_radii = le-mul-ceil_div (sums.plan_entries * weight * radius_error sums e.plan ^ 2) (2 ^ 40 * sums.rho) (scaled (input_floor d) well.rho_positive);
        residual_radii = residual_radius d h r e.plan well form;
      }))
    where
      through : (a b : ℕ) {x s t : ℕ} → s ≤ t → x ≤ a * (s * b) → x ≤ a * (t * b)
      through a b k m = omega (arith, m, mul-le-mul_left a (mul-le-mul_right b k))

      scaled : (n : ℕ) → 1 ≤ n → 0 < 2 ^ 40 * n
      scaled n k = omega (arith, k)

  pub errors_by :
      (pos weight *ℤ total (entries d) (λ j. square (gradient_over d h r c e n j)) +ℤ
      pos 2 *ℤ pos (input_floor d) *ℤ (pos (2 * r) *ℤ scale_over c (units h n)) *ℤ total (rows d) (misses_over d h r c e n)) ≤ℤ
      (pos 2 *ℤ pos (input_floor d) *ℤ scale_over c (units h n) *ℤ most_over h c n most)
  errors_by =
      closed (pos weight) (pos (input_floor d)) (pos (2 * r)) (pos most) (pos (2 ^ 40)) (pos h.rows_scale) (pos n)
      (pos (2 ^ c.fraction_bits)) (pos (2 ^ c.step_exponent)) _ _ (scale_is c.fraction_bits c.step_exponent)
      (squares_are (entries d) h.rows_scale n c.fraction_bits c.step_exponent (radius_error sums e.plan) e.gradient)
      (misses_are (rows d) h.rows_scale n c.step_exponent (residual_error sums e.plan) c.fraction_bits (row_radii sums e.plan) (row_radius d h e.plan)
      (ap (λ (m : ℕ). amount m (row_radius d h e.plan)) (sym form.encloses.row_count) ∙ all_radii d h r e.plan))
      (le_pos sums_bounded)
    where
      closed : (w o t z p g n f s x y : ℤ) {m a b : ℤ} → m ≡ f *ℤ s → a ≡ x → b ≡ y →
          (w *ℤ x +ℤ pos 2 *ℤ o *ℤ (t *ℤ (pos 2 *ℤ f *ℤ p *ℤ g *ℤ (s *ℤ n))) *ℤ y) ≤ℤ
          (pos 2 *ℤ o *ℤ (pos 2 *ℤ f *ℤ p *ℤ g *ℤ (s *ℤ n)) *ℤ (z *ℤ (pos 2 *ℤ f *ℤ g *ℤ (s *ℤ n)))) →
          (w *ℤ a +ℤ pos 2 *ℤ o *ℤ (t *ℤ (pos 2 *ℤ (p *ℤ (g *ℤ n)) *ℤ m)) *ℤ b) ≤ℤ
          (pos 2 *ℤ o *ℤ (pos 2 *ℤ (p *ℤ (g *ℤ n)) *ℤ m) *ℤ (z *ℤ (pos 2 *ℤ (f *ℤ (s *ℤ (g *ℤ n))))))
      closed w o t z p g n f s x y i j k l = rw (i, j, k) (le_by l
          (by_ring (w ∷ o ∷ t ∷ z ∷ p ∷ g ∷ n ∷ f ∷ s ∷ x ∷ y ∷ []) (search quotes depth 90 fits 20000) refl))

-- each by what the weights are over
pub errors_are : (d : Design) (h : Form) (r : ℕ) (c : Numbers) (e : StepErrors) (most n : ℕ) → IsSound d (input_floor d) → IsFormFor d h → cost_of_errors d h r c.fraction_bits e ≤ most →
    (pos d.cost_denominator *ℤ total (entries d) (λ j. square (gradient_over d h r c e n j)) +ℤ
    pos 2 *ℤ pos (input_floor d) *ℤ (pos (2 * r) *ℤ scale_over c (units h n)) *ℤ total (rows d) (misses_over d h r c e n)) ≤ℤ
    (pos 2 *ℤ pos (input_floor d) *ℤ scale_over c (units h n) *ℤ most_over h c n most)
errors_are d h r c e most n well form cheap =
    errors_by d h r c e most n d.cost_denominator (first_cost d e.gradient) well form
    (le-mul-ceil_div (d.cost_denominator * gradient_squares d e.gradient) (2 * input_floor d) (let o = well.rho_positive in omega (arith, o))) cheap

-- ---- one denominator for all
-- 2 * 2^40 * rows_scale * n times the machine's scale; and what plans and multipliers over n are times
abbrev pub over : Form → Numbers → ℕ → ℤ
over h c n = scale_over c (units h n)

abbrev pub share : Form → Numbers → ℤ
share h c = pos 2 *ℤ (pos (2 ^ 40) *ℤ pos h.rows_scale) *ℤ machine_scale c

over_is : (h : Form) (c : Numbers) (n : ℕ) → over h c n ≡ share h c *ℤ pos n
over_is h c n = closed (pos (2 ^ 40)) (pos h.rows_scale) (pos n) (machine_scale c)
  where
    closed : (p g n m : ℤ) → pos 2 *ℤ (p *ℤ (g *ℤ n)) *ℤ m ≡ pos 2 *ℤ (p *ℤ g) *ℤ m *ℤ n
    closed p g n m = by_ring (p ∷ g ∷ n ∷ m ∷ []) (search quotes depth 60 fits 20000) refl

share_nonneg : (h : Form) (c : Numbers) → pos 0 ≤ℤ share h c
share_nonneg h c = omega (arith, ints)

pub cost_over : (d : Design) (h : Form) (c : Numbers) (n : ℕ) (xi t : ℕ → ℤ) → cost d (over h c n) xi (λ j. share h c *ℤ t j) ≡ square (share h c) *ℤ cost d (pos n) xi t
cost_over d h c n xi t = ap (λ (q : ℤ). cost d q xi (λ j. share h c *ℤ t j)) (over_is h c n) ∙ (scaling_law d (share h c) (pos n) xi t).costs

pub feasible_over : (d : Design) (h : Form) (c : Numbers) (n : ℕ) (xi t : ℕ → ℤ) → IsFeasible d (pos n) xi t → IsFeasible d (over h c n) xi (λ j. share h c *ℤ t j)
feasible_over d h c n xi t k i l = below (share h c) (residual d (pos n) xi t i) (share_nonneg h c)
    (ap (λ (q : ℤ). residual d q xi (λ j. share h c *ℤ t j) i) (over_is h c n) ∙ (scaling_law d (share h c) (pos n) xi t).residuals i) (k i l)
  where
    below : (a x : ℤ) {y : ℤ} → pos 0 ≤ℤ a → y ≡ a *ℤ x → x ≤ℤ pos 0 → y ≤ℤ pos 0
    below a x p e h = rw e (le_by (mul-le-mul_left_z a p h) (by_ring (a ∷ x ∷ []) (search quotes depth 60 fits 20000) refl))

pub box_over : (m : ℕ) (h : Form) (c : Numbers) (n : ℕ) (top : ℤ) (w : ℕ → ℤ) → InBox m (top *ℤ pos n) w → InBox m (top *ℤ over h c n) (λ i. share h c *ℤ w i)
box_over m h c n top w k = record {
  low = λ i l. mul_nonneg_z (share h c) (w i) (share_nonneg h c) (k.low i l);
  high = λ i l. le_by (mul-le-mul_left_z (share h c) (share_nonneg h c) (k.high i l)) (closed (pos (2 ^ 40)) (pos h.rows_scale) (pos n) (machine_scale c) top (w i));
}
  where
    closed : (p g n m t w : ℤ) → t *ℤ (pos 2 *ℤ (p *ℤ (g *ℤ n)) *ℤ m) +ℤ (pos 2 *ℤ (p *ℤ g) *ℤ m) *ℤ w ≡ pos 2 *ℤ (p *ℤ g) *ℤ m *ℤ w +ℤ (pos 2 *ℤ (p *ℤ g) *ℤ m) *ℤ (t *ℤ n)
    closed p g n m t w = by_ring (p ∷ g ∷ n ∷ m ∷ t ∷ w ∷ []) (search quotes depth 60 fits 20000) refl

-- ---- sums
-- a product of two lists, each times a factor
pub dot_scaled : (m : ℕ) (a g : ℤ) (w x : ℕ → ℤ) {y : ℕ → ℤ} → ((i : ℕ) → i < m → y i ≡ g *ℤ x i) → dot m (λ i. a *ℤ w i) y ≡ a *ℤ (g *ℤ dot m w x)
dot_scaled m a g w x {y} h = dot_scale m a w y ∙ ap (λ (z : ℤ). a *ℤ z) (dot_same m w y (λ i. g *ℤ x i) h ∙ dot_scale_right m g w x)
