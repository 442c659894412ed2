-- The quantities of a design with a plan for each corner of its box.
use Rattle.std.specs.Prelude.{ℕ, ◌+◌, ◌*◌, ◌^◌, max, unsigned_abs}
use Rattle.integer_algebra.specs.Division.{ceil_div}
use Rattle.integer_algebra.specs.Sums.{at}
use Rattle.mat_int.specs.Matrix.{entry_of}
use Rattle.qp_model.specs.problem.Design.{Design, entries}
use Rattle.qp_model.specs.problem.Policy.{Plans}
use Rattle.qp_model.specs.form.Quantities.{greatest, growth, limit_width, cost_width, weight_sum, prediction_size}
use Rattle.qp_model.specs.form.FineSizes.{reach_from}

-- ---- exact corners
-- the greatest absolute value of a coordinate of the box, over 2^grid
abbrev pub box_magnitude : Design → ℕ
box_magnitude d = greatest d.states (λ i. max (unsigned_abs (d.low i)) (unsigned_abs (d.high i)))

-- the greatest absolute value that the plan of corner c, from 0 here, brings: its denominator over the grid, the state times it, and the plan over the grid
abbrev pub corner_magnitude : Design → Plans → ℕ → ℕ
corner_magnitude d p c =
    max (unsigned_abs (at p.denominators c) * 2 ^ d.grid)
    (max (unsigned_abs (at p.denominators c) * box_magnitude d)
    (2 ^ d.grid * greatest (entries d) (λ j. unsigned_abs (entry_of p.numerators c j))))

-- of all corners
abbrev pub policy_magnitude : Design → Plans → ℕ
policy_magnitude d p = greatest (2 ^ d.states) (corner_magnitude d p)

-- the slacks of the corners, times 2^16: `corner_slack`
abbrev pub corner_slack_size : Design → Plans → ℕ
corner_slack_size d p = 2 ^ 17 * limit_width d * prediction_size d * policy_magnitude d p

-- their costs: `corner_cost`
abbrev pub corner_cost_size : Design → Plans → ℕ
corner_cost_size d p = weight_sum d * (cost_width d * prediction_size d * policy_magnitude d p) ^ 2

-- ---- corners in enclosures
-- what the entries of the plan of corner c, from 0 here, reach, over 2^40
abbrev pub plan_reach : Design → Plans → ℕ → ℕ
plan_reach d p c = greatest (entries d) (λ j. ceil_div (2 ^ 40 * unsigned_abs (entry_of p.numerators c j)) (unsigned_abs (at p.denominators c)) + 2)

-- what all corners and their plans reach
abbrev pub first_reach : Design → Plans → ℕ
first_reach d p = max (2 ^ 40) (max (ceil_div (2 ^ 40 * box_magnitude d) (2 ^ d.grid)) (greatest (2 ^ d.states) (plan_reach d p)))

-- and their runs, at the last stage
abbrev pub corner_reach : Design → Plans → ℕ
corner_reach d p = reach_from d (first_reach d p) d.stages

-- the slacks, times 2^16, and the states before they are divided by the plant's denominator: `corner_slack`
abbrev pub fine_corner_slack_size : Design → Plans → ℕ
fine_corner_slack_size d p = max (2 ^ 17 * limit_width d * corner_reach d p) (growth d * corner_reach d p)

-- the costs: `corner_cost`
abbrev pub fine_corner_cost_size : Design → Plans → ℕ
fine_corner_cost_size d p = weight_sum d * (cost_width d * corner_reach d p) ^ 2
