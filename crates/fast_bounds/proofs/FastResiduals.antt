-- What a controller that is assembled for a design gives for the real errors of its runs.
use Rattle.std.proofs.Common.{◌≡◌, ℕ, ◌^◌, ◌≤◌, List, length, ℤ, pos, unsigned_abs, refl, ap, sym, subst, ◌∙◌}
use Rattle.qp_model.specs.form.Class.{form_of}
use Rattle.qp_model.specs.form.Columns.{descent_size}
use Rattle.qp_model.specs.problem.Design.{entries}
use Rattle.qp_model.specs.problem.Parts.{design_of}
use Rattle.qp_model.specs.bounds.RealErrors.{real_errors}
use Rattle.qp_model.specs.machine.Controller.{Numbers, IsShaped, plan_length}
use Rattle.qp_model.specs.declared.design_parts.DesignParts.{DesignParts}
use Rattle.condensed_form.specs.Form.{held}
use Rattle.condensed_form.specs.declared.condensed.Condensed.{Condensed}
use Rattle.controller_maker.specs.Assembled.{IsFastAssembled}
use Rattle.controller_maker.proofs.Tables.{shape_as, plan_long}
use Rattle.step_error.specs.CarriedErrors.{with_means, cost_of_run}
use Rattle.step_error.specs.Made.{AreSolutionsOf, IsRunMadeFor, HasGains}
use Rattle.step_error.specs.declared.sums.ErrorSums.{ErrorSums}
use Rattle.overflow_check.specs.FastController.{with_last_version, IsFastController}
use Rattle.lean_engine.specs.Engine.Aims.{IsSteppedFormOf}
use Rattle.lean_engine.specs.Engine.declared.aimed.Aim.{Aim}
use Rattle.lean_engine.specs.Engine.declared.aimed.SteppedForm.{SteppedForm}
use Rattle.fast_bounds.specs.FastAnswers.{real_cost_for, stated_cost_for, IsFastGivenFor}
use Rattle.fast_bounds.specs.FastRefusals.{fast_stated_cost}
use Rattle.fast_bounds.specs.FastTerms.{AreRunNumbersOf}
use Rattle.fast_bounds.specs.declared.numbers.RunNumbers.{RunNumbers}

-- ---- what it gives
-- its gains solve the systems of the design's form, within their bounds
pub solutions_of : (p : DesignParts) (r s : ℕ) (es : List ℕ) (k f : ℕ) (n : Numbers) → IsFastController n → descent_size (form_of (design_of p)) f ≤ 2 ^ 126 →
    IsFastAssembled (design_of p) r s es k f n → AreSolutionsOf p n.fraction_bits n.state_gains n.offsets n.dual_gains
solutions_of p r s es k f n sound descent is = record {
  state_gains = shape_as _ _ _ _ _ long is.sizes.states shaped.state_gains;
  offsets = shaped.offsets ∙ long;
  dual_gains = shape_as _ _ _ _ _ long is.sizes.rows shaped.dual_gains;
  good = λ i l. rw shaped.state_gains.cols (is.gains i l);
  within = λ i j l m. rw shaped.state_gains.cols (is.within i l j m);
  room = rw is.fraction_bits descent;
}
  where
    shaped : IsShaped (with_last_version n)
    shaped = sound.form.sized.rest.shaped

    long : plan_length n ≡ entries (design_of p)
    long = plan_long (design_of p) n is.sizes.inputs is.sizes.stages

-- what is assembled with the numbers of a run gives what they cost
pub given_from : (p : DesignParts) (a : Aim) (x : SteppedForm) (k : ℕ) (es : List ℕ) (y : RunNumbers) (n : Numbers) → IsSteppedFormOf p x →
    AreRunNumbersOf p a x.s k es y → descent_size (form_of (design_of p)) y.choice.f ≤ 2 ^ 126 → IsFastController n →
    IsFastAssembled (design_of p) (unsigned_abs a.r) x.s es k y.choice.f n → IsFastGivenFor p (unsigned_abs a.r) x.condensed y.sums n
given_from p a x k es y n stepped numbers descent sound is = record {
  form = stepped.form;
  sums = rw (is.steps, is.step_exponent, is.exponents) numbers.sums;
  given = numbers.given;
  room = rw (is.steps, is.step_exponent, is.exponents) numbers.passes.error;
  gains = solutions_of p (unsigned_abs a.r) x.s es k y.choice.f n sound descent is;
}

-- and what is stated of it, by the controller's numbers
pub stated_as : (p : DesignParts) (a : Aim) (s k : ℕ) (es : List ℕ) (y : RunNumbers) (n : Numbers) → AreRunNumbersOf p a s k es y →
    IsFastAssembled (design_of p) (unsigned_abs a.r) s es k y.choice.f n → y.choice.eps ≡ pos (stated_cost_for (design_of p) (unsigned_abs a.r) n)
stated_as p a s k es y n numbers is = numbers.cost ∙
    (λ i. pos (fast_stated_cost (design_of p) (unsigned_abs a.r) (sym is.step_exponent i) (sym is.steps i) (sym is.exponents i) (sym is.fraction_bits i)))

-- ---- what is said of its numbers, by other names of these
module _ {p : DesignParts} {r : ℕ} {c : Condensed} {e : ErrorSums} {k n : Numbers} {t : List ℤ} {es : List ℕ}
    (same : n ≡ k) (offsets : t ≡ n.offsets) (exponents : es ≡ n.exponents) (sound : IsFastController n) (given : IsFastGivenFor p r c e k) where
  shaped : IsShaped (with_last_version n)
  shaped = sound.form.sized.rest.shaped

  pub named : IsRunMadeFor p r c e n.state_gains t n.dual_gains n.fraction_bits n.steps n.step_exponent es
  named = subst (λ (t : List ℤ). IsRunMadeFor p r c e n.state_gains t n.dual_gains n.fraction_bits n.steps n.step_exponent es) (sym offsets)
      (subst (λ (es : List ℕ). IsRunMadeFor p r c e n.state_gains n.offsets n.dual_gains n.fraction_bits n.steps n.step_exponent es) (sym exponents)
      (subst (λ (n : Numbers). IsFastGivenFor p r c e n) (sym same) given))

  pub own_gains : HasGains n n.fraction_bits n.state_gains t n.dual_gains
  own_gains = record { states = sym shaped.state_gains.cols; bits = refl; state_gains = refl; offsets = sym offsets; dual_gains = refl }

  -- one exponent for each row of the form
  pub counted : length es ≡ (held c).rows
  counted = ap (λ (xs : List ℕ). length xs) exponents ∙ shaped.exponents ∙ sym shaped.dual_gains.cols ∙ named.gains.dual_gains.cols ∙ sym named.form.shapes.g.rows

  pub cost_same : pos (cost_of_run (design_of p) (form_of (design_of p)) r n.fraction_bits n.steps
      (with_means (form_of (design_of p)) n.step_exponent es (real_errors (design_of p) (form_of (design_of p)) r n))) ≡ pos (real_cost_for p r k)
  cost_same = (λ i. pos (cost_of_run (design_of p) (form_of (design_of p)) r n.fraction_bits n.steps
      (with_means (form_of (design_of p)) n.step_exponent (exponents i) (real_errors (design_of p) (form_of (design_of p)) r n)))) ∙
      ap (λ (x : Numbers). pos (real_cost_for p r x)) same
