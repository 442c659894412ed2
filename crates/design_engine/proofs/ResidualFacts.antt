-- What a controller that is assembled for a design gives for its real errors, and that these cost no more than the stated ones.
use Rattle.std.proofs.Common.{◌≡◌, ℕ, ◌^◌, ◌≤◌, List, ℤ, refl, sym, subst, ◌∙◌}
use Rattle.qp_model.specs.problem.Design.{entries}
use Rattle.qp_model.specs.problem.Parts.{design_of}
use Rattle.qp_model.specs.form.Class.{form_of}
use Rattle.qp_model.specs.form.Columns.{descent_size}
use Rattle.mat_int.specs.Matrix.{Matrix}
use Rattle.qp_model.specs.machine.Controller.{Numbers, IsShaped, plan_length}
use Rattle.qp_model.specs.machine.AbsoluteSums.{IsController}
use Rattle.qp_model.specs.declared.design_parts.DesignParts.{DesignParts}
use Rattle.condensed_form.specs.Form.{IsFormOf}
use Rattle.condensed_form.specs.declared.condensed.Condensed.{Condensed}
use Rattle.step_error.specs.declared.sums.ErrorSums.{ErrorSums}
use Rattle.step_error.specs.Made.{AreSumsOf, HasGains}
use Rattle.controller_maker.specs.Assembled.{IsAssembled}
use Rattle.design_engine.specs.Residuals.{IsGivenFor}
use Rattle.controller_maker.proofs.Tables.{shape_as, plan_long}

-- what is said of a controller's gains, by other names of these
pub named : (is : Matrix → List ℤ → Matrix → ℕ → Type 0) (k n : Numbers) (t : List ℤ) → n ≡ k → t ≡ n.offsets → is k.state_gains k.offsets k.dual_gains k.fraction_bits →
    is n.state_gains t n.dual_gains n.fraction_bits
named is k n t same offsets given = subst (λ (t : List ℤ). is n.state_gains t n.dual_gains n.fraction_bits) (sym offsets)
    (subst (λ (n : Numbers). is n.state_gains n.offsets n.dual_gains n.fraction_bits) (sym same) given)

-- they are its own
pub own_gains : (n : Numbers) (t : List ℤ) → t ≡ n.offsets → IsController n → HasGains n n.fraction_bits n.state_gains t n.dual_gains
own_gains n t offsets controller =
    record { states = sym controller.form.sized.shaped.state_gains.cols; bits = refl; state_gains = refl; offsets = sym offsets; dual_gains = refl }

module _ (p : DesignParts) (r q s : ℕ) (es : List ℕ) (k f : ℕ) (c : Condensed) (n : Numbers) (form : IsFormOf p c) (is : r ≡ q)
    (made : IsAssembled (design_of p) r s es k f n) where
  pub given_from : (e : ErrorSums) → AreSumsOf p q c e → IsController n → descent_size (form_of (design_of p)) f ≤ 2 ^ 126 → IsGivenFor p q c e n
  given_from e sums controller descent = record {
    sums = sums;
    gains = record {
      state_gains = shape_as _ _ _ _ _ long made.sizes.states shaped.state_gains;
      offsets = shaped.offsets ∙ long;
      dual_gains = shape_as _ _ _ _ _ long made.sizes.rows shaped.dual_gains;
      good = λ i l. rw shaped.state_gains.cols (made.gains i l);
      within = λ i j l m. rw shaped.state_gains.cols (made.within i l j m);
      room = rw made.fraction_bits descent;
    };
  }
    where
      shaped : IsShaped n
      shaped = controller.form.sized.shaped

      long : plan_length n ≡ entries (design_of p)
      long = plan_long (design_of p) n made.sizes.inputs made.sizes.stages
