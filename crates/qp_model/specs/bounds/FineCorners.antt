-- What a policy shows at the corners of the box in enclosures, for designs whose exact corners are too long. A corner is counted from 1.
use Rattle.std.specs.Prelude.{ℕ, ◌*◌, ◌%◌, ◌^◌, ℤ, pos, ◌+ℤ◌, ◌-ℤ◌, ◌*ℤ◌, neg_ℤ, unsigned_abs}
use Rattle.integer_algebra.specs.Sums.{total, square}
use Rattle.frac_scaled.specs.Enclosures.{Enclosure, magnitude, enclosed, exactly, sum_of}
use Rattle.qp_model.specs.problem.Design.{Design, entries}
use Rattle.qp_model.specs.problem.Box.{corner}
use Rattle.qp_model.specs.problem.Policy.{Plans, corner_denominator, corner_plan}
use Rattle.qp_model.specs.problem.Runs.{counts, bound_at}
use Rattle.qp_model.specs.form.FineForm.{counted_row, fine_cost, fine_limit}
use Rattle.qp_model.specs.bounds.Margin.{Shown}

-- ---- the run of a corner's plan
-- the corner's state, without a radius where 2^grid divides 2^40
abbrev pub corner_state : Design → ℕ → ℕ → Enclosure
corner_state d c i = enclosed (corner d c i) (2 ^ d.grid)

-- an entry of its plan
abbrev pub corner_input : Plans → ℕ → ℕ → Enclosure
corner_input p c j = enclosed (corner_plan p c j) (unsigned_abs (corner_denominator p c))

-- ---- the limits
-- what row i of all rows has of the run, times limit_denominator
abbrev pub corner_limit : Design → Plans → ℕ → ℕ → Enclosure
corner_limit d p c i = fine_limit d (corner_state d c) (corner_input p c) i

-- the slack of row i is at least this, over limit_denominator * 2^40
abbrev pub least_slack : Design → Plans → ℕ → ℕ → ℤ
least_slack d p c i = pos (2 ^ 40) *ℤ bound_at d i -ℤ (corner_limit d p c i).mid -ℤ (corner_limit d p c i).rad

-- ---- the cost
-- by how much counted cost row r misses its target, times row_denominator
abbrev pub corner_gap : Design → Plans → ℕ → ℕ → Enclosure
corner_gap d p c r = sum_of (fine_cost d (corner_state d c) (corner_input p c) r) (exactly (neg_ℤ (counted_row d r).target))

-- the rows cost at most this, over cost_denominator * row_denominator^2 * 2^80, and so do the inputs
abbrev pub most_row_cost : Design → Plans → ℕ → ℤ
most_row_cost d p c = total (counts d) (λ r. (counted_row d r).weight *ℤ square (magnitude (corner_gap d p c r)))

abbrev pub most_input_cost : Design → Plans → ℕ → ℤ
most_input_cost d p c =
    total (entries d) (λ j. d.input_weight (j % d.inputs) *ℤ pos (d.row_denominator ^ 2) *ℤ square (magnitude (corner_input p c j)))

-- ---- slacks that are at most the true ones, and costs that are at least those
abbrev pub enclosed_corners : Design → Plans → Shown
enclosed_corners d p = record {
  slack = least_slack d p;
  slack_scale = λ c. pos (d.limit_denominator * 2 ^ 40);
  cost = λ c. most_row_cost d p c +ℤ most_input_cost d p c;
  cost_scale = λ c. pos (d.cost_denominator * d.row_denominator ^ 2 * 2 ^ 80);
}
