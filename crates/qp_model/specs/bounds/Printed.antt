-- The numbers that are printed of a controller, as the promise speaks of them.
use Rattle.std.specs.Prelude.{ℕ, ℤ, List, Bool}
use Rattle.qp_model.specs.declared.bounds.Bounds.{Bounds}

-- `violation`, the greatest of all rows, and that of each row, `gap` and `undercut` are over 2^40, the margin over 2^16; where it is `lean`, the
-- excess stands in place of the cost, over 2^16
pub record Printed : Type 0 where
  pub version : ℕ
  pub margin : ℤ
  pub lean : Bool
  pub cost : ℤ
  pub multiplier : ℤ
  pub step : ℕ
  pub steps : ℕ
  pub bits : ℕ
  pub width : ℕ
  pub words : ℕ
  pub violation : ℤ
  pub row_violations : List ℤ
  pub gap : ℤ
  pub undercut : ℤ

abbrev pub printed : Bounds → Printed
printed b = record {
  version = b.version;
  margin = b.margin;
  lean = b.lean;
  cost = b.cost;
  multiplier = b.multiplier;
  step = b.step;
  steps = b.steps;
  bits = b.bits;
  width = b.width;
  words = b.words;
  violation = b.violation;
  row_violations = b.rows.items;
  gap = b.gap;
  undercut = b.undercut;
}
