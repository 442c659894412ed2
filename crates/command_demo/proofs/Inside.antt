-- A controller that is made of a design has its box.
use Rattle.std.proofs.Common.{ℕ, ◌<◌, List, ℤ, ◌≤ℤ◌, length, sym, ◌∙◌, subst}
use Rattle.integer_algebra.specs.Sums.{at}
use Rattle.mat_int.specs.Matrix.{Matrix, row_of}
use Rattle.qp_model.specs.bounds.Built.{HasSizesOf}
use Rattle.qp_model.specs.problem.Parts.{design_of}
use Rattle.qp_model.specs.problem.Policy.{Plans}
use Rattle.qp_model.specs.problem.Design.{Design}
use Rattle.qp_model.specs.machine.Controller.{Numbers}
use Rattle.qp_model.specs.declared.design_parts.DesignParts.{DesignParts}
use Rattle.qp_model.specs.bounds.Printed.{Printed}
use Rattle.policy_file.specs.StatesText.{IsStatesText}
use Rattle.design_maker.specs.Texts.{states_text}
use Rattle.plan_lines.specs.Inside.{AreInside}
use Rattle.command_generate.specs.Made.{IsMadeOf}
use Rattle.command_demo.specs.Demo.{AreMadeFrom, IsShown}
use Rattle.command_demo.specs.Making.{AreInBox}

-- whatever text the states are of
pub inside : (d : Design) (c : Numbers) (bytes : List ℕ) (states : Matrix) → HasSizesOf d c → IsStatesText bytes d.states states → AreInBox d states → AreInside c states (length states.rows)
inside d c bytes states sizes text box e l = record {
  long = (text.each e (subst (λ (n : ℕ). e < n) text.rows l)).numbers ∙ sym sizes.states;
  each = λ i less.
      let below = subst (λ (n : ℕ). i < n) sizes.states less in
      let within = box e l i below in
      record {
        low = subst (λ (z : ℤ). z ≤ℤ at (row_of states e) i) (sym (sizes.low i below)) within.0;
        high = subst (λ (z : ℤ). at (row_of states e) i ≤ℤ z) (sym (sizes.high i below)) within.1;
      };
}

pub shown : (number : ℕ) (p : DesignParts) (plans : Plans) (c : Numbers) (b : Printed) (states : Matrix) → AreMadeFrom number p plans → IsMadeOf p plans c b →
    IsStatesText states_text (design_of p).states states → AreInBox (design_of p) states → IsShown number c b states
shown number p plans c b states texts made text box = record {
  p = p;
  plans = plans;
  texts = texts;
  made = made;
  third_text = subst (λ (n : ℕ). IsStatesText states_text n states) (sym made.built.made.made.sizes.states) text;
  inside = inside (design_of p) c states_text states made.built.made.made.sizes text box;
}
