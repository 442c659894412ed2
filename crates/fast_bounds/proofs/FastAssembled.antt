-- What is made for a design with an aim, and why the last tests refuse it.
use Rattle.std.proofs.Common.{◌≡◌, inl, inr, ℕ, ◌+◌, ◌^◌, ◌<◌, ◌≤◌, ℤ, pos, List, unsigned_abs, arith, refl, ap, ◌∙◌}
use Rattle.std.proofs.lemmas.Bool.{cases_lt}
use Rattle.qp_model.specs.form.Class.{form_of, hessian_quantity}
use Rattle.qp_model.specs.form.Columns.{descent_size}
use Rattle.qp_model.specs.problem.Design.{Design}
use Rattle.qp_model.specs.problem.Parts.{IsDesign, design_of}
use Rattle.qp_model.specs.bounds.Choices.{step_count}
use Rattle.qp_model.specs.machine.Controller.{Numbers}
use Rattle.qp_model.specs.refusal.Refusing.{of_size}
use Rattle.qp_model.specs.declared.design_parts.DesignParts.{DesignParts}
use Rattle.qp_model.specs.declared.size_fault.SizeFault.{SizeFault}
use Rattle.qp_model.specs.declared.size_fault.SizeFault.TheVariants.{Memory as size_memory, TooWide as size_wide}
use Rattle.qp_model.specs.declared.refusal.Refusal.{Refusal}
use Rattle.qp_model.specs.declared.refusal.Refusal.TheVariants.{TooManySteps}
use Rattle.approx_inverse.specs.Fault.{IsFault}
use Rattle.controller_maker.specs.Fault.{IsWidthFault}
use Rattle.controller_maker.specs.Widest.{fast_width_size}
use Rattle.controller_maker.specs.Assembled.{HasFastExponents, IsFastAssembled}
use Rattle.dual_bounds.specs.FastSteps.{quarter_steps}
use Rattle.dual_bounds.proofs.QuarterLaws.{few}
use Rattle.lean_engine.specs.Steps.{IsExponentOf}
use Rattle.lean_engine.specs.Engine.RowExponents.{AreExponentsOf}
use Rattle.overflow_check.specs.FastController.{most_fast_steps, IsFastController}
use Rattle.lean_engine.specs.Engine.Tests.{IsRefusedFor}
use Rattle.lean_engine.specs.Engine.declared.aimed.Aim.{Aim}
use Rattle.lean_engine.proofs.Engine.BuiltFacts.{exponents_listed}
use Rattle.fast_bounds.specs.FastCertified.{IsFastMadeWith}
use Rattle.fast_bounds.specs.FastRefusals.{AreStepsFor, AfterFastBits, HasFastAimCause}
use Rattle.fast_bounds.specs.FastTerms.{PassesFastBits}

-- ---- the steps
-- they are too many
pub steps_refused : (d : Design) (a : Aim) (s : ℕ) (k : ℤ) → quarter_steps 65534 < step_count (s + 2) (unsigned_abs a.r) (unsigned_abs a.step_target) →
    (k ≡ pos (unsigned_abs k)) × AreStepsFor a s (unsigned_abs k) → (e : Refusal) → e ≡ TooManySteps k → HasFastAimCause d a s e
steps_refused d a s k many h e j = inl (unsigned_abs k, j ∙ ap (λ (n : ℤ). TooManySteps n) h.0, (h.1, more (unsigned_abs k) h.1))
  where
    more : (n : ℕ) → AreStepsFor a s n → most_fast_steps < n
    more n steps = elim (cases_lt most_fast_steps n) [ inl l ↦ l | inr l ↦ absurd (clash many (few _ n steps l)) ]
      where
        clash : {a b : ℕ} → a < b → b ≤ a → ⊥
        clash {a} {b} h k = omega (arith, h, k)

-- ---- the last tests
module _ (d : Design) (a : Aim) (s k : ℕ) (es : List ℕ) (f : ℕ) (passes : PassesFastBits d a s k es f) where
  past_bits : (e : Refusal) → AfterFastBits d a s k f e → IsRefusedFor (HasFastAimCause d a s) e
  past_bits e h = inr (inr (k, (passes.steps, passes.few), inr (es, passes.exponents, inr (passes.error, inr (f, passes.choice, h)))))

  pub solve_refused : (fault : SizeFault) → IsFault fault (2 ^ 126 < descent_size (form_of d) f) → (e : Refusal) → e ≡ of_size fault →
      IsRefusedFor (HasFastAimCause d a s) e
  solve_refused size_memory h e j = inl j
  solve_refused (size_wide quantity) h e j = past_bits e (rw (j, h.0) (inl (refl, h.1)))

  pub width_refused : descent_size (form_of d) f ≤ 2 ^ 126 → (fault : SizeFault) → IsWidthFault fault (2 ^ 126 < fast_width_size d (unsigned_abs a.r) s k f) →
      (e : Refusal) → e ≡ of_size fault → IsRefusedFor (HasFastAimCause d a s) e
  width_refused size size_memory h e j = inl j
  width_refused size (size_wide quantity) h e j = past_bits e (rw (j, h.0) (inr (size, inl (refl, h.1))))

-- ---- the controller
-- the exponents of a design's rows, as it has them
pub exponents_held : (d : Design) (s : ℕ) (es : List ℕ) → AreExponentsOf d s es → HasFastExponents d s es
exponents_held d s es h =
    let held = exponents_listed d s es h in
    record { long = held.long; high = held.high; first = λ e. absurd (omega (arith, e)) }

-- what is assembled with the numbers of an aim is made with it
pub made_from : (p : DesignParts) (a : Aim) (c : Numbers) (s k : ℕ) (es : List ℕ) (f r : ℕ) → IsDesign p → hessian_quantity (design_of p) ≤ 2 ^ 126 →
    IsExponentOf (design_of p) s → PassesFastBits (design_of p) a s k es f → IsFastController c → r ≡ unsigned_abs a.r → IsFastAssembled (design_of p) r s es k f c →
    IsFastMadeWith p a c
made_from p a c s k es f r design narrow exponent passes sound same is = record {
  design = design;
  narrow = narrow;
  controller = sound;
  made = record {
    sizes = is.sizes;
    rows = is.rows;
    gains = is.gains;
    exponents = rw (is.exponents, is.step_exponent) passes.curved;
    clamp = is.clamp ∙ rw (same, is.fraction_bits, is.step_exponent) refl;
  };
  exponent = rw is.step_exponent exponent;
  exponents = rw (is.step_exponent, is.exponents) passes.exponents;
  steps = rw (is.step_exponent, is.steps) passes.steps;
  bits = rw (is.fraction_bits, is.steps, is.step_exponent, is.exponents) passes.choice;
  width = is.width;
}
