-- What the corners' plans show where a policy has no margin: the first corner, and in it the first row, with less slack than 2^-16. In both classes of corners: simulated
-- exactly, and in enclosures.
use Rattle.std.specs.Prelude.{◌≡◌, ℕ, ◌-◌, ◌^◌, ◌<◌, ◌≤◌, Bool, pos, ◌*ℤ◌, ◌<ℤ◌}
use Rattle.frac_scaled.specs.declared.fraction.Frac.{Frac}
use Rattle.qp_model.specs.declared.quantity.Quantity.{Quantity}
use Rattle.qp_model.specs.declared.quantity.Quantity.TheVariants.{Prediction, CornerSlack, CornerCost}
use Rattle.qp_model.specs.problem.Design.{Design, rows}
use Rattle.qp_model.specs.problem.Policy.{Plans}
use Rattle.qp_model.specs.form.Class.{prediction_in}
use Rattle.qp_model.specs.bounds.CornerClass.{has_fine_corners, shown_in, corner_slack_in, corner_cost_in}
use Rattle.qp_model.specs.bounds.Margin.{Shown, HasSlack}

-- ---- in a class
-- the three quantities that the corners are simulated within
pub record HasCornerRoomIn (fine : Bool) (d : Design) (p : Plans) : Type 0 where
  pub prediction : prediction_in fine d ≤ 2 ^ 126
  pub slack : corner_slack_in fine d p ≤ 2 ^ 126
  pub cost : corner_cost_in fine d p ≤ 2 ^ 126

-- the quantity is the first of the three that is above 2^126
abbrev pub IsFirstWideCornerIn : (fine : Bool) → Design → Plans → Quantity → Type 0
IsFirstWideCornerIn fine d p Prediction = 2 ^ 126 < prediction_in fine d
IsFirstWideCornerIn fine d p CornerSlack = (prediction_in fine d ≤ 2 ^ 126) × (2 ^ 126 < corner_slack_in fine d p)
IsFirstWideCornerIn fine d p CornerCost = (prediction_in fine d ≤ 2 ^ 126) × ((corner_slack_in fine d p ≤ 2 ^ 126) × (2 ^ 126 < corner_cost_in fine d p))
IsFirstWideCornerIn fine d p q = ⊥

-- each of the first rows shows at corner c a slack of at least 2^-16
abbrev pub AllSlackOf : Shown → ℕ → ℕ → Type 0
AllSlackOf k c count = (i : ℕ) → i < count → HasSlack k (pos 1) c i

-- corner c, and in it row number r, both counted from 1, are the first with less slack than 2^-16, and `slack` is that slack
pub record IsFirstShortIn (fine : Bool) (d : Design) (p : Plans) (c r : ℕ) (slack : Frac) : Type 0 where
  pub corner_first : 1 ≤ c
  pub corner_last : c ≤ 2 ^ d.states
  pub row_first : 1 ≤ r
  pub row_last : r ≤ rows d
  pub corners_before : (b : ℕ) → 1 ≤ b → b < c → AllSlackOf (shown_in fine d p) b (rows d)
  pub rows_before : AllSlackOf (shown_in fine d p) c (r - 1)
  pub short : (pos (2 ^ 16) *ℤ (shown_in fine d p).slack c (r - 1)) <ℤ (shown_in fine d p).slack_scale c
  pub numerator : slack.num ≡ (shown_in fine d p).slack c (r - 1)
  pub denominator : slack.den ≡ (shown_in fine d p).slack_scale c

-- ---- in the corners' own class
abbrev pub HasCornerRoom : Design → Plans → Type 0
HasCornerRoom d p = HasCornerRoomIn (has_fine_corners d p) d p

abbrev pub IsFirstWideCorner : Design → Plans → Quantity → Type 0
IsFirstWideCorner d p q = IsFirstWideCornerIn (has_fine_corners d p) d p q

abbrev pub IsFirstShort : Design → Plans → (c r : ℕ) → Frac → Type 0
IsFirstShort d p c r slack = IsFirstShortIn (has_fine_corners d p) d p c r slack
