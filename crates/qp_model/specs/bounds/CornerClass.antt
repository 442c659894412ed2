-- The class of the corners of a design with a policy: whether they are simulated exactly or in enclosures; and what that decides. It is not the class of the design.
use Rattle.std.specs.Prelude.{ℕ, ◌^◌, max, Bool, true, false, nat_lt}
use Rattle.qp_model.specs.problem.Design.{Design, rows}
use Rattle.qp_model.specs.problem.Sound.{IsSound}
use Rattle.qp_model.specs.problem.Policy.{Plans, IsPolicyFor}
use Rattle.qp_model.specs.form.Quantities.{prediction_size}
use Rattle.qp_model.specs.form.Class.{prediction_in}
use Rattle.qp_model.specs.bounds.CornerSizes.{corner_slack_size, corner_cost_size, fine_corner_slack_size, fine_corner_cost_size}
use Rattle.qp_model.specs.bounds.Margin.{Shown, simulated, BoundsCorners, IsMarginOf}
use Rattle.qp_model.specs.bounds.FineCorners.{enclosed_corners}
use Rattle.qp_model.specs.declared.bounds.Margin.{Margin}

-- `prediction`, `corner_slack` or `corner_cost` of the exact corners is above 2^126
abbrev pub has_fine_corners : Design → Plans → Bool
has_fine_corners d p = nat_lt (2 ^ 126) (max (prediction_size d) (max (corner_slack_size d p) (corner_cost_size d p)))

-- ---- by class
-- what a margin is made of
abbrev pub shown_in : (fine : Bool) → Design → Plans → Shown
shown_in true d p = enclosed_corners d p
shown_in false d p = simulated d p

abbrev pub corner_slack_in : (fine : Bool) → Design → Plans → ℕ
corner_slack_in true d p = fine_corner_slack_size d p
corner_slack_in false d p = corner_slack_size d p

abbrev pub corner_cost_in : (fine : Bool) → Design → Plans → ℕ
corner_cost_in true d p = fine_corner_cost_size d p
corner_cost_in false d p = corner_cost_size d p

-- the margin of all corners
abbrev pub IsMarginIn : (fine : Bool) → Design → Plans → Margin → Type 0
IsMarginIn fine d p m = IsMarginOf (shown_in fine d p) (rows d) (2 ^ d.states) m

-- ---- of the corners' own class
abbrev pub shown : Design → Plans → Shown
shown d p = shown_in (has_fine_corners d p) d p

abbrev pub IsMargin : Design → Plans → Margin → Type 0
IsMargin d p m = IsMarginIn (has_fine_corners d p) d p m

-- the quantities `prediction`, `corner_slack` and `corner_cost` of the corners
abbrev pub corner_prediction_quantity : Design → Plans → ℕ
corner_prediction_quantity d p = prediction_in (has_fine_corners d p) d

abbrev pub corner_slack_quantity : Design → Plans → ℕ
corner_slack_quantity d p = corner_slack_in (has_fine_corners d p) d p

abbrev pub corner_cost_quantity : Design → Plans → ℕ
corner_cost_quantity d p = corner_cost_in (has_fine_corners d p) d p

-- what the enclosures show is no more than the corners truly have, and so is what is shown in either class
abbrev pub FineCornersLaw : Type 0
FineCornersLaw = (d : Design) (rho : ℕ) (p : Plans) → IsSound d rho → IsPolicyFor d p → BoundsCorners d p (enclosed_corners d p)

abbrev pub ShownLaw : Type 0
ShownLaw = (d : Design) (rho : ℕ) (p : Plans) → IsSound d rho → IsPolicyFor d p → BoundsCorners d p (shown d p)
