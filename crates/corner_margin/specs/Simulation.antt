-- What one corner shows. Its number c counts from 1.
use Rattle.std.specs.Prelude.{◌≡◌, ℕ, ◌-◌, ◌*◌, ◌^◌, ◌<◌, ◌≤◌, ℤ, pos, ◌+ℤ◌, ◌-ℤ◌, ◌*ℤ◌, ◌≤ℤ◌, ◌<ℤ◌, unsigned_abs}
use Rattle.integer_algebra.specs.Sizes.{size}
use Rattle.frac_scaled.specs.declared.fraction.Frac.{Frac}
use Rattle.qp_model.specs.declared.bounds.Margin.{Margin}
use Rattle.qp_model.specs.bounds.Margin.{Shown, HasSlack, HasCost}
use Rattle.corner_margin.specs.Corners.{AllSlackOf}

-- ---- what a corner shows
-- each row shows a slack of at least units / 2^16, some row one of less than (units + 1) / 2^16
pub record HasUnits (k : Shown) (rows c : ℕ) (units : ℤ) : Type 0 where
  pub some : pos 1 ≤ℤ units
  pub slacks : (i : ℕ) → i < rows → HasSlack k units c i
  pub row : ℕ
  pub inside : row < rows
  pub short : (pos (2 ^ 16) *ℤ k.slack c row) <ℤ ((units +ℤ pos 1) *ℤ k.slack_scale c)

-- the cost is at most `most`, and above `most` - 1
pub record HasCornerCost (k : Shown) (c : ℕ) (most : ℤ) : Type 0 where
  pub some : pos 0 ≤ℤ most
  pub cost : HasCost k most c
  pub dear : ((most -ℤ pos 1) *ℤ k.cost_scale c) <ℤ k.cost c

pub record IsCornerMargin (k : Shown) (rows c : ℕ) (m : Margin) : Type 0 where
  pub units : HasUnits k rows c m.units
  pub cost : HasCornerCost k c m.cost

-- row number r, from 1, is the first with less slack than 2^-16, and `slack` is that slack
pub record IsShortRow (k : Shown) (rows c r : ℕ) (slack : Frac) : Type 0 where
  pub first : 1 ≤ r
  pub last : r ≤ rows
  pub before : AllSlackOf k c (r - 1)
  pub short : (pos (2 ^ 16) *ℤ k.slack c (r - 1)) <ℤ k.slack_scale c
  pub numerator : slack.num ≡ k.slack c (r - 1)
  pub denominator : slack.den ≡ k.slack_scale c

-- what the slacks and the costs of the first corners are over is positive
pub record HasScales (k : Shown) (corners : ℕ) : Type 0 where
  pub slack : (c : ℕ) → 1 ≤ c → c ≤ corners → pos 1 ≤ℤ k.slack_scale c
  pub cost : (c : ℕ) → 1 ≤ c → c ≤ corners → pos 1 ≤ℤ k.cost_scale c

-- ---- sums of squares
-- weighted squares of numbers of at most `side`
pub record SquaresFit (n : ℕ) (w x : ℕ → ℤ) : Type 0 where
  pub side : ℕ
  pub small : (i : ℕ) → i < n → unsigned_abs (x i) ≤ side
  pub square : side ^ 2 ≤ 2 ^ 126
  pub sum : size n w * side ^ 2 ≤ 2 ^ 126
