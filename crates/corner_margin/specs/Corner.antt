-- What the run of a corner's plan is over and what it reaches, in both classes. A corner's number c counts from 1 in `unit_in`, and else from 0.
use Rattle.std.specs.Prelude.{◌≡◌, ℕ, ◌+◌, ◌*◌, ◌^◌, ◌<◌, ◌≤◌, Bool, true, false, List}
use Rattle.enclosure.specs.declared.types.Enc.{Enc}
use Rattle.qp_model.specs.declared.design_parts.DesignParts.{DesignParts}
use Rattle.qp_model.specs.problem.Design.{Design, entries}
use Rattle.qp_model.specs.problem.Parts.{design_of, IsDesign}
use Rattle.qp_model.specs.problem.Policy.{Plans, IsPolicyFor}
use Rattle.qp_model.specs.form.FineForm.{fine_run}
use Rattle.qp_model.specs.form.Quantities.{growth, limit_width, cost_width, weight_sum, prediction_size}
use Rattle.qp_model.specs.bounds.CornerSizes.{policy_magnitude, corner_reach}
use Rattle.qp_model.specs.bounds.Margin.{Shown}
use Rattle.scaled_run.specs.ScaledCorners.{scaled_corner_state, scaled_corner_input, scaled_corners, corner_unit}
use Rattle.scaled_run.specs.Lists.{HoldsEnclosures, Reaches}
use Rattle.corner_margin.specs.Corners.{HasCornerRoomIn}

-- ---- by class
-- what the run of corner c is over
abbrev pub unit_in : (fine : Bool) → Design → Plans → ℕ → ℕ
unit_in true d p c = 2 ^ 40
unit_in false d p c = corner_unit d p c

-- what the runs of all corners reach at most
abbrev pub reach_in : (fine : Bool) → Design → Plans → ℕ
reach_in true d p = corner_reach d p
reach_in false d p = policy_magnitude d p * prediction_size d

-- and their states before they are divided, as far as that is tested
abbrev pub states_in : (fine : Bool) → Design → Plans → ℕ
states_in true d p = growth d * corner_reach d p
states_in false d p = policy_magnitude d p * prediction_size d

-- a design with room for its policy, and what the runs of all corners reach at most
pub record IsSetting (fine : Bool) (p : DesignParts) (s : Plans) (reach : ℕ) : Type 0 where
  pub design : IsDesign p
  pub policy : IsPolicyFor (design_of p) s
  pub room : HasCornerRoomIn fine (design_of p) s
  pub reach_is : reach ≡ reach_in fine (design_of p) s

-- ---- in either
-- what all corners show when they are run over the unit
abbrev pub shown_over : (unit : ℕ) → Design → Plans → Shown
shown_over unit d s = scaled_corners (λ c. unit) d s

-- the run of corner c over the unit reaches so far, and then all that is made of it fits
pub record IsCornerScale (p : DesignParts) (s : Plans) (unit reach c : ℕ) : Type 0 where
  pub design : IsDesign p
  pub policy : IsPolicyFor (design_of p) s
  pub inside : c < 2 ^ p.states
  pub some : 1 ≤ unit
  pub covers : unit ≤ reach
  pub near_states : (k i : ℕ) → k ≤ p.stages → i < p.states →
      Reaches (fine_run (design_of p) (scaled_corner_state unit (design_of p) (c + 1)) (scaled_corner_input unit s (c + 1)) k i) reach
  pub near_plan : (j : ℕ) → j < entries (design_of p) → Reaches (scaled_corner_input unit s (c + 1) j) reach
  pub states : growth (design_of p) * reach ≤ 2 ^ 126
  pub slack : 2 ^ 17 * (limit_width (design_of p) * reach) ≤ 2 ^ 126
  pub cost : weight_sum (design_of p) * (cost_width (design_of p) * reach) ^ 2 ≤ 2 ^ 126

-- the corner's coordinates, and the entries of its plan
pub record IsCorner (p : DesignParts) (s : Plans) (unit reach c : ℕ) (start plan : List Enc) : Type 0 where
  pub scale : IsCornerScale p s unit reach c
  pub start_is : HoldsEnclosures start p.states (scaled_corner_state unit (design_of p) (c + 1))
  pub plan_is : HoldsEnclosures plan (entries (design_of p)) (scaled_corner_input unit s (c + 1))
