-- Factors that fit words of 64 bits.
use Rattle.std.specs.Prelude.{◌+◌, ◌-◌, ◌^◌, ◌≤◌, ◌<◌, ℤ, All, unsigned_abs}
use Rattle.mat_products.specs.Narrow.{IsNarrow}
use Rattle.qp_model.specs.machine.Controller.{Numbers}

-- a coordinate of the box that does over 2^fraction_bits
abbrev pub IsNarrowCoordinate : Numbers → ℤ → Type 0
IsNarrowCoordinate c x = unsigned_abs x < 2 ^ (63 - (c.fraction_bits - c.grid_bits))

-- each entry of the matrices, of a state of the box and of the raised multipliers does, and, by the width, each entry of the plan
pub record HasNarrowFactors (c : Numbers) : Type 0 where
  pub low : All (IsNarrowCoordinate c) c.low
  pub high : All (IsNarrowCoordinate c) c.high
  pub state_gains : All (All IsNarrow) c.state_gains.rows
  pub dual_gains : All (All IsNarrow) c.dual_gains.rows
  pub plan_rows : All (All IsNarrow) c.plan_rows.rows
  pub state_rows : All (All IsNarrow) c.state_rows.rows
  pub clamp : IsNarrow c.clamp
  pub width : c.width ≤ c.fraction_bits + c.step_exponent + 63
