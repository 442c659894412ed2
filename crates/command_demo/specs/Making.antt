-- The inputs of the demo, on the way.
use Rattle.std.specs.Prelude.{◌≡◌, ℕ, ◌<◌, List, length}
use Rattle.integer_algebra.specs.Sums.{at}
use Rattle.mat_int.specs.Matrix.{Matrix, row_of}
use Rattle.qp_model.specs.problem.Box.{IsGridState}
use Rattle.qp_model.specs.problem.Design.{Design}
use Rattle.qp_model.specs.problem.Parts.{design_of, design_numbers}
use Rattle.qp_model.specs.problem.Policy.{Plans, plans_of, IsPolicyFor}
use Rattle.qp_model.specs.declared.design_parts.DesignParts.{DesignParts}
use Rattle.policy_file.specs.PolicyText.{IsPolicyText}
use Rattle.policy_file.specs.StatesText.{IsStatesText}
use Rattle.command_demo.specs.Demo.{AreMadeFrom}
use Rattle.command_demo.specs.declared.inputs.Inputs.{Inputs}

-- a design and a policy are made from this number, and what else is made from it has the same numbers
pub record AreOnlyMade (number : ℕ) (p : DesignParts) (plans : Plans) : Type 0 where
  pub made : AreMadeFrom number p plans
  pub one : (q : DesignParts) (others : Plans) → AreMadeFrom number q others → (design_numbers q ≡ design_numbers p) × (others ≡ plans)

-- the states are grid states of the design's box
abbrev pub AreInBox : Design → Matrix → Type 0
AreInBox d states = (e : ℕ) → e < length states.rows → IsGridState d (at (row_of states e))

-- the policy and the states are those of these texts, for the design, and there are four states, which lie in its box
pub record AreReadOf (policy_text states_text : List ℕ) (i : Inputs) : Type 0 where
  pub policy : IsPolicyText policy_text (design_of i.design) (plans_of i.policy)
  pub one : (plans : Plans) → IsPolicyText policy_text (design_of i.design) plans → plans ≡ plans_of i.policy
  pub sized : IsPolicyFor (design_of i.design) (plans_of i.policy)
  pub states : IsStatesText states_text (design_of i.design).states i.states
  pub four : length i.states.rows ≡ 4
  pub inside : AreInBox (design_of i.design) i.states
