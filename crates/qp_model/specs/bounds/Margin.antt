-- What a policy shows at the corners of the box, and the margin that is made of it.
use Rattle.std.specs.Prelude.{ℕ, ◌^◌, ◌<◌, ◌≤◌, ℤ, pos, ◌+ℤ◌, ◌-ℤ◌, ◌*ℤ◌, ◌≤ℤ◌, ◌<ℤ◌}
use Rattle.integer_algebra.specs.Sums.{square}
use Rattle.qp_model.specs.problem.Design.{Design, rows}
use Rattle.qp_model.specs.problem.Box.{corner}
use Rattle.qp_model.specs.problem.Cost.{cost, cost_scale}
use Rattle.qp_model.specs.problem.Residual.{slack, residual_scale}
use Rattle.qp_model.specs.problem.Policy.{Plans, corner_denominator, corner_plan}
use Rattle.qp_model.specs.declared.bounds.Margin.{Margin}

-- ---- the slacks and costs of the corners' plans, which are counted from 1
-- the slack of row i, from 0, and what it is over
abbrev pub corner_slack : Design → Plans → ℕ → ℕ → ℤ
corner_slack d p c i = slack d (corner_denominator p c) (corner d c) (corner_plan p c) i

abbrev pub slack_scale : Design → Plans → ℕ → ℤ
slack_scale d p c = pos (residual_scale d) *ℤ corner_denominator p c

-- the cost, and what it is over
abbrev pub corner_cost : Design → Plans → ℕ → ℤ
corner_cost d p c = cost d (corner_denominator p c) (corner d c) (corner_plan p c)

abbrev pub corner_cost_scale : Design → Plans → ℕ → ℤ
corner_cost_scale d p c = pos (cost_scale d) *ℤ square (corner_denominator p c)

-- ---- what a margin is made of
-- for each corner, from 1, a slack of each row, from 0, and a cost, each with what it is over
pub record Shown : Type 0 where
  pub slack : ℕ → ℕ → ℤ
  pub slack_scale : ℕ → ℤ
  pub cost : ℕ → ℤ
  pub cost_scale : ℕ → ℤ

-- the true slacks and costs
abbrev pub simulated : Design → Plans → Shown
simulated d p = record { slack = corner_slack d p; slack_scale = slack_scale d p; cost = corner_cost d p; cost_scale = corner_cost_scale d p }

-- row i shows at corner c a slack of at least units / 2^16
abbrev pub HasSlack : Shown → ℤ → ℕ → ℕ → Type 0
HasSlack k units c i = (units *ℤ k.slack_scale c) ≤ℤ (pos (2 ^ 16) *ℤ k.slack c i)

-- the cost of corner c is at most `most`
abbrev pub HasCost : Shown → ℤ → ℕ → Type 0
HasCost k most c = k.cost c ≤ℤ (most *ℤ k.cost_scale c)

-- the true slacks are at least what is shown, and the true costs at most that
pub record BoundsCorners (d : Design) (p : Plans) (k : Shown) : Type 0 where
  pub slacks : (units : ℤ) (c i : ℕ) → 1 ≤ c → c ≤ 2 ^ d.states → i < rows d → HasSlack k units c i → HasSlack (simulated d p) units c i
  pub costs : (most : ℤ) (c : ℕ) → 1 ≤ c → c ≤ 2 ^ d.states → HasCost k most c → HasCost (simulated d p) most c

-- ---- the margin
-- some row shows at some of the first corners a slack below units / 2^16
pub record IsShortOf (k : Shown) (rows corners : ℕ) (units : ℤ) : Type 0 where
  pub c : ℕ
  pub row : ℕ
  pub first : 1 ≤ c
  pub last : c ≤ corners
  pub inside : row < rows
  pub short : (pos (2 ^ 16) *ℤ k.slack c row) <ℤ (units *ℤ k.slack_scale c)

-- some of the first corners costs more than `most`
pub record IsDearerThan (k : Shown) (corners : ℕ) (most : ℤ) : Type 0 where
  pub c : ℕ
  pub first : 1 ≤ c
  pub last : c ≤ corners
  pub dear : (most *ℤ k.cost_scale c) <ℤ k.cost c

-- The margin of the first corners: their least slack of all rows times 2^16, rounded down, and their greatest cost, rounded up to a whole
-- number.
pub record IsMarginOf (k : Shown) (rows corners : ℕ) (m : Margin) : Type 0 where
  pub slacks : (c i : ℕ) → 1 ≤ c → c ≤ corners → i < rows → HasSlack k m.units c i
  pub least : IsShortOf k rows corners (m.units +ℤ pos 1)
  pub costs : (c : ℕ) → 1 ≤ c → c ≤ corners → HasCost k m.cost c
  pub greatest : IsDearerThan k corners (m.cost -ℤ pos 1)
