-- What the texts of a made design are.
use Rattle.std.specs.Prelude.{◌≡◌, ℕ, ◌<◌, List, length}
use Rattle.integer_algebra.specs.Sums.{at}
use Rattle.mat_int.specs.Matrix.{row_of}
use Rattle.qp_model.specs.problem.Box.{IsGridState}
use Rattle.qp_model.specs.problem.Limits.{text_version, most_stages}
use Rattle.qp_model.specs.problem.Parts.{design_numbers, design_of}
use Rattle.qp_model.specs.problem.Range.{LiesIn}
use Rattle.qp_model.specs.declared.design_parts.DesignParts.{DesignParts}
use Rattle.design_files.specs.DesignText.{IsDesignText}
use Rattle.policy_file.specs.PolicyText.{IsPolicyText}
use Rattle.policy_file.specs.StatesText.{IsStatesText}
use Rattle.design_maker.specs.Draws.{drawn}
use Rattle.design_maker.specs.Texts.{design_text, policy_text, states_text}
use Rattle.design_maker.specs.MadeParts.{made_numbers, coasting_plans, corner_matrix}

-- the first text is a design's, the second one of plans for it that coast, and the third one of the corners of its box
pub record AreMadeTexts (p : DesignParts) (first second third : List ℕ) : Type 0 where
  pub design : IsDesignText first p
  pub policy : IsPolicyText second (design_of p) (coasting_plans p.stages)
  pub states : IsStatesText third p.states corner_matrix
  pub box : (e : ℕ) → e < length corner_matrix.rows → IsGridState (design_of p) (at (row_of corner_matrix e))

-- they are those of a design with the numbers that a seed makes
abbrev pub AreMade : ℕ → ℕ → List ℕ → List ℕ → List ℕ → Type 0
AreMade seed stages first second third =
    (p : DesignParts) × (design_numbers p ≡ made_numbers (drawn seed) stages) × AreMadeTexts p first second third

-- and of each such design
abbrev pub MadeLaw : Type 0
MadeLaw = (seed stages : ℕ) → LiesIn 1 (most_stages text_version) stages → (p : DesignParts) → design_numbers p ≡ made_numbers (drawn seed) stages
    → AreMadeTexts p (design_text seed stages) (policy_text stages) states_text
