-- How far the gradient moves where the means are rounded.
use Rattle.std.proofs.Common.{◌≡◌, ℕ, ◌+◌, ◌*◌, ◌^◌, ◌<◌, ◌≤◌, ℤ, pos, ◌-ℤ◌, ◌*ℤ◌, neg_ℤ, ◌≤ℤ◌, unsigned_abs, arith, ap, sym, ◌∙◌, subst}
use Rattle.std.proofs.lemmas.Int.{ints, unsigned_abs-mul}
use Rattle.std.proofs.lemmas.Nat.{pow_pos}
use Rattle.std.proofs.Math.Nat.{mul-le-mul_left, one-le-mul}
use Rattle.integer_algebra.specs.Sizes.{amount}
use Rattle.integer_algebra.specs.Bounds.{absolute, IsWithin}
use Rattle.integer_algebra.proofs.AmountLaws.{amount_mono, amount_scale}
use Rattle.integer_algebra.proofs.DivisionLaws.{le-mul-ceil_div}
use Rattle.integer_algebra.proofs.OrderLaws.{cancel-le_z}
use Rattle.integer_algebra.proofs.SizeLaws.{total_amount}
use Rattle.integer_algebra.proofs.SumLaws.{total_same}
use Rattle.qp_model.specs.problem.Design.{Design, entries, rows}
use Rattle.qp_model.specs.problem.Residual.{residual_scale}
use Rattle.qp_model.specs.form.Form.{Form, IsFormFor, rows_scale, farthest}
use Rattle.qp_model.specs.form.Condensing.{condensed_of}
use Rattle.qp_model.specs.machine.Controller.{Numbers}
use Rattle.qp_model.specs.machine.Machine.{lowering_of}
use Rattle.qp_model.specs.form.Quantities.{input_floor}
use Rattle.step_error.proofs.DesignLaws.{program}
use Rattle.fast_machine.specs.FastErrors.{mean_misses}
use Rattle.step_error.specs.CarriedErrors.{mean_error}

-- an exact number over its scale s, by its midpoint and radius over the scale g
exact_le : (g s rad : ℕ) (x y : ℤ) → IsWithin (pos (s * rad)) (pos g *ℤ x -ℤ pos s *ℤ y) → g * unsigned_abs x ≤ s * farthest y rad
exact_le g s rad x y h = apart (unsigned_abs-mul (pos g) x) (unsigned_abs-mul (pos s) y) (near (pos g *ℤ x) (pos s *ℤ y) (s * rad) h.below h.above)
  where
    near : (a b : ℤ) (e : ℕ) → (a -ℤ b) ≤ℤ pos e → neg_ℤ (pos e) ≤ℤ (a -ℤ b) → unsigned_abs a ≤ unsigned_abs b + e
    near a b e h k = omega (arith, ints, h, k)

    apart : {a b : ℕ} → a ≡ g * unsigned_abs x → b ≡ s * unsigned_abs y → a ≤ b + s * rad → g * unsigned_abs x ≤ s * farthest y rad
    apart {a} {b} e f h = omega (arith, e, f, h)

by_equal : {x y z : ℤ} → x ≡ y → y ≤ℤ z → x ≤ℤ z
by_equal e h = rw e h

-- a common positive factor
cancelled : (g a b : ℕ) → 0 < g → g * a ≤ g * b → a ≤ b
cancelled g a b p h = lower (cancel-le_z (pos g) (pos a) (pos b) (omega (arith, ints, p)) (omega (arith, ints, h)))
  where
    lower : pos a ≤ℤ pos b → a ≤ b
    lower k = omega (arith, ints, k)

module _ (d : Design) (h : Form) (c : Numbers) (xi : ℕ → ℤ) (form : IsFormFor d h) (j : ℕ) (inside : j < entries d) where
  abbrev exact : ℕ → ℕ
  exact i = unsigned_abs ((condensed_of d).by_plan i j)

  abbrev far : ℕ → ℕ
  far i = farthest (h.numbers.by_plan i j) (h.plan_radius i j)

  abbrev low : ℕ → ℕ
  low i = 2 ^ lowering_of c i

  -- what all rows come to, exactly
  moved_le : amount (rows d) (λ i. low i * exact i) ≤ rows_scale d * (2 ^ c.step_exponent * mean_error h c.step_exponent c.exponents j)
  moved_le = cancelled h.rows_scale _ _ form.rows_some
      (through (rows_scale d) (2 ^ c.step_exponent) h.rows_scale (mean_error h c.step_exponent c.exponents j) _ _ each
      (le-mul-ceil_div (amount h.rows (λ i. low i * far i)) (2 ^ c.step_exponent * h.rows_scale) (one-le-mul (pow_pos c.step_exponent) form.rows_some)))
    where
      one : (l g x s y : ℕ) → g * x ≤ s * y → g * (l * x) ≤ s * (l * y)
      one l g x s y h = omega (arith, mul-le-mul_left l h)

      each : h.rows_scale * amount (rows d) (λ i. low i * exact i) ≤ rows_scale d * amount h.rows (λ i. low i * far i)
      each = subst (λ (m : ℕ). h.rows_scale * amount (rows d) (λ i. low i * exact i) ≤ rows_scale d * amount m (λ i. low i * far i)) (sym form.encloses.row_count)
          (rw (← amount_scale (rows d) h.rows_scale (λ i. low i * exact i), ← amount_scale (rows d) (rows_scale d) (λ i. low i * far i))
          (amount_mono (rows d) _ _ (λ i l. one (low i) h.rows_scale (exact i) (rows_scale d) (far i)
          (exact_le h.rows_scale (rows_scale d) (h.plan_radius i j) ((condensed_of d).by_plan i j) (h.numbers.by_plan i j) (form.encloses.plan i j l inside)))))

      through : (s p g e x y : ℕ) → g * x ≤ s * y → y ≤ p * g * e → g * x ≤ g * (s * (p * e))
      through s p g e x y h k = omega (arith, h, mul-le-mul_left s k)

  -- over a denominator: what it is times, the machine's scale aside
  pub misses_le : (m : ℕ) → mean_misses (program d (condensed_of d) (input_floor d) xi) c (pos (2 ^ 40) *ℤ (pos h.rows_scale *ℤ pos m)) j ≤ℤ
      (pos (residual_scale d) *ℤ (pos 2 *ℤ (pos h.rows_scale *ℤ pos m) *ℤ pos (2 ^ 40 * 2 ^ c.step_exponent * mean_error h c.step_exponent c.exponents j)))
  misses_le m = by_equal (total_same (rows d) _ _ (λ i l. term (low i) ((condensed_of d).by_plan i j))
      ∙ total_amount (rows d) (λ i. 2 * (2 ^ 40 * (h.rows_scale * m)) * 2 ^ d.grid * (low i * exact i))
      ∙ ap pos (amount_scale (rows d) (2 * (2 ^ 40 * (h.rows_scale * m)) * 2 ^ d.grid) (λ i. low i * exact i)))
      (scaled d.limit_denominator (2 ^ d.grid) (d.plant_denominator ^ d.stages) (2 ^ 40) (h.rows_scale * m) (2 ^ c.step_exponent) (mean_error h c.step_exponent c.exponents j) moved_le)
    where
      term : (l : ℕ) (x : ℤ) → pos 2 *ℤ (pos (2 ^ 40) *ℤ (pos h.rows_scale *ℤ pos m) *ℤ pos l) *ℤ absolute (pos (2 ^ d.grid) *ℤ x) ≡
          pos (2 * (2 ^ 40 * (h.rows_scale * m)) * 2 ^ d.grid * (l * unsigned_abs x))
      term l x = rw (unsigned_abs-mul (pos (2 ^ d.grid)) x) (ap pos (flat (2 ^ 40) (h.rows_scale * m) l (2 ^ d.grid) (unsigned_abs x)))
        where
          flat : (p n l w x : ℕ) → 2 * (p * n * l) * (w * x) ≡ 2 * (p * n) * w * (l * x)
          flat p n l w x = omega arith

      scaled : (a w t p n s e : ℕ) {x : ℕ} → x ≤ a * t * (s * e) → pos (2 * (p * n) * w * x) ≤ℤ pos (a * w * t * (2 * n * (p * s * e)))
      scaled a w t p n s e {x} k = raised (mul-le-mul_left (2 * (p * n) * w) k)
        where
          raised : 2 * (p * n) * w * x ≤ 2 * (p * n) * w * (a * t * (s * e)) → pos (2 * (p * n) * w * x) ≤ℤ pos (a * w * t * (2 * n * (p * s * e)))
          raised l = omega (arith, ints, l)
