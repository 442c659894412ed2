-- Why the numbers of a run are refused.
use Rattle.std.proofs.Common.{◌≡◌, inl, inr, ℕ, ◌+◌, ◌*◌, ◌^◌, ◌<◌, ◌≤◌, ℤ, pos, List, unsigned_abs, arith, ap, ◌∙◌}
use Rattle.std.proofs.Math.Nat.{mul-le-mul_left, mul-le-mul_right}
use Rattle.integer_algebra.proofs.AmountLaws.{amount_mono}
use Rattle.qp_model.specs.form.Class.{form_of}
use Rattle.qp_model.specs.form.Form.{Form}
use Rattle.qp_model.specs.form.Quantities.{input_floor}
use Rattle.qp_model.specs.problem.Design.{Design, entries}
use Rattle.qp_model.specs.bounds.Errors as errors
use Rattle.qp_model.specs.bounds.Errors.{epsilon, error_size, error_sums_of, gradient_error, gradient_squares, first_cost}
use Rattle.qp_model.specs.declared.quantity.Quantity.{Quantity}
use Rattle.qp_model.specs.declared.quantity.Quantity.TheVariants.{Error}
use Rattle.qp_model.specs.declared.refusal.Refusal.{Refusal}
use Rattle.qp_model.specs.declared.refusal.Refusal.TheVariants.{TooFine, TooWide}
use Rattle.step_error.specs.CarriedErrors.{carry_of, mean_error, run_sums_of}
use Rattle.step_error.specs.RunSums.{mean_squares, run_error_size}
use Rattle.step_error.proofs.Ceilings.{ceil_rises}
use Rattle.step_error.proofs.FallingLaws.{squares_rise}
use Rattle.step_error.proofs.RunLaws.{carry_some}
use Rattle.lean_engine.specs.Engine.RowExponents.{AreExponentsOf}
use Rattle.overflow_check.specs.FastController.{most_fast_steps}
use Rattle.lean_engine.specs.Engine.declared.aimed.Aim.{Aim}
use Rattle.fast_bounds.specs.FastRefusals.{AreStepsFor, AfterExponents, HasFastAimCause}

-- ---- `error` of a run is no less than that of a step
squares_le : (d : Design) (h : Form) (r s : ℕ) (es : List ℕ) → gradient_squares d (gradient_error d h r) ≤ mean_squares d h r s es
squares_le d h r s es = amount_mono (entries d) _ _ (λ j l. squares_rise (more (gradient_error d h r j) (mean_error h s es j)))
  where
    more : (a t : ℕ) → a ≤ a + t
    more a t = omega arith

grown : (c p t a b f g x w n q y1 y2 y3 y4 y5 m : ℕ) → a ≤ b → f ≤ g → 1 ≤ m →
    c * (p + t + a + 2 ^ 40 * (f + x)) + w * n * q + y1 + y2 + y3 + y4 + y5 ≤ c * (p + t + b + 2 ^ 40 * (g + x)) + (w * m * n * q + y1 + y2 + y3 + y4 + y5)
grown c p t a b f g x w n q y1 y2 y3 y4 y5 m h k l =
    close (mul-le-mul_left c (inner h k)) (mul-le-mul_right q (mul-le-mul_right n (often w m l)))
  where
    inner : a ≤ b → f ≤ g → p + t + a + 2 ^ 40 * (f + x) ≤ p + t + b + 2 ^ 40 * (g + x)
    inner h k = omega (arith, h, k)

    often : (w m : ℕ) → 1 ≤ m → w ≤ w * m
    often w m l = omega (arith, mul-le-mul_left w l)

    close : {u v e z : ℕ} → u ≤ v → e ≤ z → u + e + y1 + y2 + y3 + y4 + y5 ≤ v + (z + y1 + y2 + y3 + y4 + y5)
    close {u} {v} {e} {z} h k = omega (arith, h, k)

times_le : (m : ℕ) {a b : ℕ} → 1 ≤ m → a ≤ b → a ≤ m * b
times_le m {a} {b} l h = omega (arith, h, mul-le-mul_right b l)

pub step_under : (d : Design) (h : Form) (r k s : ℕ) (es : List ℕ) → error_size d h r ≤ run_error_size d h r k s es
step_under d h r k s es =
    let less = mul-le-mul_left d.cost_denominator (squares_le d h r s es) in
    let sums = error_sums_of d h r in
    grown (sums.spread ^ 2) _ sums.tail _ _ sums.first (carry_of k * first_cost d (λ j. gradient_error d h r j + mean_error h s es j)) _ sums.weight_scale _ _ _ _ _ _ _ (carry_of k) less
    (times_le (carry_of k) (carry_some k) (ceil_rises _ _ (2 * input_floor d) less)) (carry_some k)

-- ---- the tests of the errors and the bits
module _ (d : Design) (a : Aim) (s k : ℕ) (es : List ℕ) (steps : AreStepsFor a s k) (few : k ≤ most_fast_steps) (exponents : AreExponentsOf d s es) where
  past_exponents : (e : Refusal) → AfterExponents d a s k es e → HasFastAimCause d a s e
  past_exponents e h = inr (k, (steps, few), inr (es, exponents, h))

  above : (n : ℕ) → (n ≤ 2 ^ 126 → ⊥) → 2 ^ 126 < n
  above n refuted = omega (arith, refuted)

  pub sums_refused : (quantity : Quantity) → (run_error_size d (form_of d) (unsigned_abs a.r) k s es ≤ 2 ^ 126 → ⊥) → quantity ≡ Error → (e : Refusal) → e ≡ TooWide quantity →
      HasFastAimCause d a s e
  sums_refused quantity refuted g e j =
      past_exponents e (inl (j ∙ ap (λ (q : Quantity). TooWide q) g, above (run_error_size d (form_of d) (unsigned_abs a.r) k s es) refuted))

  -- those of a step alone are too large, and so are those of a run
  pub step_refused : (quantity : Quantity) → (error_size d (form_of d) (unsigned_abs a.r) ≤ 2 ^ 126 → ⊥) → quantity ≡ Error → (e : Refusal) → e ≡ TooWide quantity →
      HasFastAimCause d a s e
  step_refused quantity refuted = sums_refused quantity (λ h. refuted (through (step_under d (form_of d) (unsigned_abs a.r) k s es) h))
    where
      through : {m n : ℕ} → m ≤ n → n ≤ 2 ^ 126 → m ≤ 2 ^ 126
      through {m} {n} h k = omega (arith, h, k)

  pub choice_refused : (sums : errors.ErrorSums) (eps : ℤ) → run_error_size d (form_of d) (unsigned_abs a.r) k s es ≤ 2 ^ 126 →
      sums ≡ run_sums_of d (form_of d) (unsigned_abs a.r) k s es → unsigned_abs a.error_target < epsilon sums 48 → eps ≡ pos (epsilon sums 48) →
      (e : Refusal) → e ≡ TooFine eps → HasFastAimCause d a s e
  choice_refused sums eps size same fine is e j = past_exponents e (inr (size, inl (j ∙ ap (λ (n : ℤ). TooFine n) (rw same at is), rw same at fine)))
