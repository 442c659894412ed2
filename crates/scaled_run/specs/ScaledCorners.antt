-- The corners of a policy in the one recipe, and what they are in the two classes. `unit` is what the run of a corner is over.
use Rattle.std.specs.Prelude.{◌≡◌, ℕ, ◌*◌, ◌%◌, ◌^◌, ◌≤◌, ℤ, pos, ◌+ℤ◌, ◌-ℤ◌, ◌*ℤ◌, ◌≤ℤ◌, neg_ℤ, unsigned_abs}
use Rattle.integer_algebra.specs.Division.{round_of}
use Rattle.integer_algebra.specs.Sums.{total, square}
use Rattle.frac_scaled.specs.Enclosures.{Enclosure, magnitude, inexact, sum_of}
use Rattle.qp_model.specs.problem.Design.{Design, entries}
use Rattle.qp_model.specs.declared.design_parts.DesignParts.{DesignParts}
use Rattle.qp_model.specs.problem.Parts.{IsDesign, design_of}
use Rattle.qp_model.specs.form.Quantities.{growth, prediction_size}
use Rattle.qp_model.specs.bounds.CornerSizes.{policy_magnitude, corner_cost_size}
use Rattle.qp_model.specs.problem.Box.{corner}
use Rattle.qp_model.specs.problem.Policy.{Plans, corner_denominator, corner_plan}
use Rattle.qp_model.specs.problem.Runs.{counts, bound_at}
use Rattle.qp_model.specs.form.FineForm.{counted_row, fine_cost, fine_limit}
use Rattle.qp_model.specs.bounds.Margin.{Shown, simulated}
use Rattle.qp_model.specs.bounds.FineCorners.{enclosed_corners}
use Rattle.scaled_run.specs.ScaledForm.{whole, exact_unit}

-- num / den, over `unit`
abbrev pub over_unit : (unit : ℕ) → ℤ → ℕ → Enclosure
over_unit unit num den = record { mid = round_of (pos unit *ℤ num) den; rad = inexact (pos unit *ℤ num) den }

-- ---- the run of a corner's plan
abbrev pub scaled_corner_state : (unit : ℕ) → Design → ℕ → ℕ → Enclosure
scaled_corner_state unit d c i = over_unit unit (corner d c i) (2 ^ d.grid)

abbrev pub scaled_corner_input : (unit : ℕ) → Plans → ℕ → ℕ → Enclosure
scaled_corner_input unit p c j = over_unit unit (corner_plan p c j) (unsigned_abs (corner_denominator p c))

-- ---- the limits
abbrev pub scaled_corner_limit : (unit : ℕ) → Design → Plans → ℕ → ℕ → Enclosure
scaled_corner_limit unit d p c i = fine_limit d (scaled_corner_state unit d c) (scaled_corner_input unit p c) i

abbrev pub scaled_least_slack : (unit : ℕ) → Design → Plans → ℕ → ℕ → ℤ
scaled_least_slack unit d p c i = pos unit *ℤ bound_at d i -ℤ (scaled_corner_limit unit d p c i).mid -ℤ (scaled_corner_limit unit d p c i).rad

-- ---- the cost
abbrev pub scaled_gap : (unit : ℕ) → Design → Plans → ℕ → ℕ → Enclosure
scaled_gap unit d p c r = sum_of (fine_cost d (scaled_corner_state unit d c) (scaled_corner_input unit p c) r) (whole unit (neg_ℤ (counted_row d r).target))

abbrev pub scaled_row_cost : (unit : ℕ) → Design → Plans → ℕ → ℤ
scaled_row_cost unit d p c = total (counts d) (λ r. (counted_row d r).weight *ℤ square (magnitude (scaled_gap unit d p c r)))

abbrev pub scaled_input_cost : (unit : ℕ) → Design → Plans → ℕ → ℤ
scaled_input_cost unit d p c = total (entries d) (λ j. d.input_weight (j % d.inputs) *ℤ pos (d.row_denominator ^ 2) *ℤ square (magnitude (scaled_corner_input unit p c j)))

-- ---- what they show
abbrev pub scaled_corners : (unit : ℕ → ℕ) → Design → Plans → Shown
scaled_corners unit d p = record {
  slack = λ c. scaled_least_slack (unit c) d p c;
  slack_scale = λ c. pos (d.limit_denominator * unit c);
  cost = λ c. scaled_row_cost (unit c) d p c +ℤ scaled_input_cost (unit c) d p c;
  cost_scale = λ c. pos (d.cost_denominator * d.row_denominator ^ 2 * (unit c * unit c));
}

-- ---- the two classes
-- what an exact corner's run is over: what its plan is over, the grid, and the plant's denominator to the power of the stages
abbrev pub corner_unit : Design → Plans → ℕ → ℕ
corner_unit d p c = unsigned_abs (corner_denominator p c) * 2 ^ d.grid * exact_unit d

-- enclosures
abbrev pub FineCornersAreScaled : Type 0
FineCornersAreScaled = (d : Design) (p : Plans) → enclosed_corners d p ≡ scaled_corners (λ c. 2 ^ 40) d p

-- two show the same at corner c
pub record ShowSame (k h : Shown) (c : ℕ) : Type 0 where
  pub slack : (i : ℕ) → k.slack c i ≡ h.slack c i
  pub slack_scale : k.slack_scale c ≡ h.slack_scale c
  pub cost : k.cost c ≡ h.cost c
  pub cost_scale : k.cost_scale c ≡ h.cost_scale c

-- exact corners: the true slacks and costs, and what they are over
abbrev pub ExactCornersAreScaled : Type 0
ExactCornersAreScaled = (d : Design) (p : Plans) (c : ℕ) → 1 ≤ d.plant_denominator → pos 1 ≤ℤ corner_denominator p c →
    ShowSame (scaled_corners (corner_unit d p) d p) (simulated d p) c

-- where `corner_cost` of exact corners is within its limit, no sum of their runs passes 2^99 before it is divided
abbrev pub ExactCornerRoomLaw : Type 0
ExactCornerRoomLaw = (p : DesignParts) (s : Plans) → IsDesign p → corner_cost_size (design_of p) s ≤ 2 ^ 126 →
    growth (design_of p) * (policy_magnitude (design_of p) s * prediction_size (design_of p)) ≤ 2 ^ 99
