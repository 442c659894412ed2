-- The residuals cost no more than what good solutions may leave.
use Rattle.std.proofs.Common.{◌≡◌, ℕ, ◌+◌, ◌*◌, ◌<◌, ◌≤◌, Bool, true, false, if◌then◌else◌, ℤ, unsigned_abs, arith, ap, subst, ◌∙◌}
use Rattle.std.proofs.lemmas.Int.{unsigned_abs-mul}
use Rattle.std.proofs.Math.Nat.{mul-le-mul_left, one-le-mul}
use Rattle.integer_algebra.specs.Division.{ceil_div}
use Rattle.integer_algebra.proofs.AmountLaws.{amount_mono}
use Rattle.integer_algebra.proofs.DivisionLaws.{le-mul-ceil_div, ceil_div-le}
use Rattle.qp_model.specs.problem.Design.{Design, entries}
use Rattle.qp_model.specs.problem.Parts.{IsDesign, design_of}
use Rattle.qp_model.specs.form.Form.{Form, IsFormFor, farthest}
use Rattle.qp_model.specs.form.Columns.{columns, solve_matrix, solve_column}
use Rattle.qp_model.specs.form.GoodSolution.{IsGood}
use Rattle.qp_model.specs.machine.Controller.{Numbers}
use Rattle.qp_model.specs.bounds.Built.{gain_column, IsDerivedFrom}
use Rattle.qp_model.specs.form.Quantities.{input_floor}
use Rattle.qp_model.specs.bounds.Errors.{state_bound, combined_bound, gradient_error, first_cost, error_sums_of, plan_bound}
use Rattle.qp_model.specs.bounds.RealErrors.{has_residual_room, real_gradient, real_plan}
use Rattle.qp_model.specs.declared.design_parts.DesignParts.{DesignParts}
use Rattle.qp_model.proofs.SizeFacts.{positive}
use Rattle.step_error.proofs.Ceilings.{ceil_rises}
use Rattle.step_error.proofs.FallingLaws.{squares_rise, errors_cost_rises}
use Rattle.step_error.specs.Gains.{missed_sum, missed_gradient, combined_of}
use Rattle.step_error.specs.RealLaws.{RealCostLaw}
use Rattle.step_error.proofs.Missed.{missed_le, missed_sum_le}

-- ---- the gradient
-- numbers alone
quotient_le : (limit scale g far e z : ℕ) → 0 < limit → 0 < scale → g ≤ far → 2 * e ≤ limit * g * z → ceil_div e (limit * scale) ≤ ceil_div far (2 * scale) * z
quotient_le limit scale g far e z pl ps h k =
    ceil_div-le e (limit * scale) (ceil_div far (2 * scale) * z) (one-le-mul pl ps)
    (let a = mul-le-mul_left (limit * z) h in
    let b = mul-le-mul_left (limit * z) (le-mul-ceil_div far (2 * scale) (one-le-mul {a = 2} (omega arith) ps)) in
    omega (arith, k, a, b))

-- good solutions at f bits of a form's systems
module _ (p : DesignParts) (h : Form) (r f : ℕ) (x : ℕ → ℕ → ℤ) (design : IsDesign p) (form : IsFormFor (design_of p) h)
    (good : (i : ℕ) → i < columns h → IsGood h.entries (solve_matrix h) f (solve_column h i) (x i)) where
  abbrev d : Design
  d = design_of p

  limit_some : 0 < d.limit_denominator
  limit_some = positive p.limit_den design.limit_den.low

  factor_is : unsigned_abs h.matrix_factor ≡ d.limit_denominator
  factor_is = ap unsigned_abs form.matrix_factor

  diagonal_is : (j : ℕ) → unsigned_abs (solve_matrix h j j) ≡ d.limit_denominator * unsigned_abs (h.numbers.hessian j j)
  diagonal_is j = unsigned_abs-mul h.matrix_factor (h.numbers.hessian j j) ∙ ap (λ (n : ℕ). n * unsigned_abs (h.numbers.hessian j j)) factor_is

  pub missed_gradient_le : (j : ℕ) → j < entries d → missed_gradient h f x (state_bound d) (2 * r) j ≤ gradient_error d h r j
  missed_gradient_le j l =
      let m : j < h.entries = omega (arith, l, form.encloses.entry_count) in
      let e = counted (missed_sum_le h f x (state_bound d) (2 * r) j (λ i k. missed_le h f x i j (good i k) m)) in
      rw factor_is (more _ (quotient_le d.limit_denominator h.hessian_scale (unsigned_abs (h.numbers.hessian j j)) (farthest (h.numbers.hessian j j) (h.hessian_radius j j))
      (missed_sum h f x (state_bound d) (2 * r) j) (combined_bound d r) limit_some form.hessian_some (omega arith) (rw (diagonal_is j) at e)))
    where
      more : {a b : ℕ} (t : ℕ) → a ≤ b → a + t ≤ b + t
      more {a} {b} t h = omega (arith, h)

      counted : 2 * missed_sum h f x (state_bound d) (2 * r) j ≤ unsigned_abs (solve_matrix h j j) * combined_of h (state_bound d) (2 * r) →
          2 * missed_sum h f x (state_bound d) (2 * r) j ≤ unsigned_abs (solve_matrix h j j) * combined_bound d r
      counted = subst (λ n. 2 * missed_sum h f x (state_bound d) (2 * r) j ≤ unsigned_abs (solve_matrix h j j) * n)
          (λ t. form.encloses.state_count t * state_bound d + 1 + form.encloses.row_count t * (2 * r))

-- ---- the law
pub real_gradient_le : (p : DesignParts) (h : Form) (r : ℕ) (c : Numbers) → IsDesign p → IsFormFor (design_of p) h → IsDerivedFrom (design_of p) h r c →
    (j : ℕ) → j < entries (design_of p) → real_gradient (design_of p) h r c j ≤ gradient_error (design_of p) h r j
real_gradient_le p h r c design form made j l =
    lesser (has_residual_room (design_of p) h r) (missed_gradient_le p h r c.fraction_bits (gain_column c) design form made.gains j l)
  where
    lesser : (b : Bool) {x y : ℕ} → x ≤ y → (if b then x else y) ≤ y
    lesser true {x} {y} h = h
    lesser false {x} {y} h = omega arith

pub plan_le : (d : Design) (h : Form) (r : ℕ) (c : Numbers) → real_plan d h r c ≤ plan_bound (error_sums_of d h r) c.fraction_bits
plan_le d h r c = omega arith

pub cost : RealCostLaw
cost p h r c design form made =
    let d = design_of p in
    let s = error_sums_of d h r in
    errors_cost_rises s (first_cost d (real_gradient d h r c)) s.first (real_plan d h r c) (plan_bound s c.fraction_bits) c.fraction_bits
    (ceil_rises _ _ (2 * input_floor d) (mul-le-mul_left d.cost_denominator (amount_mono (entries d) _ _ (λ j l. squares_rise (real_gradient_le p h r c design form made j l)))))
    (plan_le d h r c)
