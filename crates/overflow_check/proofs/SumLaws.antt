-- A state within its magnitudes and multipliers within the clamp keep each sum within the absolute sums.
use Rattle.std.proofs.Common.{ℕ, ◌+◌, ◌*◌, ◌^◌, ◌≤◌, ◌<◌, ℤ, List, length, unsigned_abs, arith}
use Rattle.std.proofs.lemmas.Nat.{pow_pos}
use Rattle.integer_algebra.specs.Sums.{at}
use Rattle.integer_algebra.specs.Division.{ceil_div}
use Rattle.mat_int.specs.Row.{list_dot, abs_dot}
use Rattle.mat_int.specs.Matrix.{row_of}
use Rattle.mat_int.proofs.Dots.{abs-dot_le}
use Rattle.qp_model.specs.machine.Controller.{Numbers}
use Rattle.qp_model.specs.machine.AbsoluteSums.{weighted_abs_sum, state_magnitudes, clamp_magnitudes, entry_absolute_sum, plan_magnitudes, row_absolute_sum, next_magnitude, sum_magnitude, greatest_of, greatest_sum}
use Rattle.qp_model.specs.machine.Within.{AreWithin}
use Rattle.qp_model.proofs.AbsoluteLaws.{le_times_pow, ceil_div_mono}
use Rattle.qp_model.proofs.MagnitudeLaws.{abs_dot-magnitudes}
use Rattle.overflow_check.proofs.Greatest.{greatest-parts, le-greatest}

-- ---- what a bound on the greatest sum says of each
-- each absolute sum is at most top
pub record SumsFit (c : Numbers) (top : ℕ) : Type 0 where
  pub states : greatest_of (state_magnitudes c) ≤ top
  pub entries : (j : ℕ) → j < length c.offsets → entry_absolute_sum c j ≤ top
  pub rows : (i : ℕ) → i < length c.bounds → row_absolute_sum c i ≤ top
  pub next : (i : ℕ) → i < length c.bounds → next_magnitude c i ≤ top
  pub sums : (j : ℕ) → j < length c.offsets → sum_magnitude c j ≤ top

pub sums_fit : (c : Numbers) (top : ℕ) → greatest_sum c ≤ top → SumsFit c top
sums_fit c top h = record {
  states = omega (arith, h, greatest-parts c);
  entries = λ j l. omega (arith, h, greatest-parts c, le-greatest (entry_absolute_sum c) (length c.offsets) j l);
  rows = λ i l. omega (arith, h, greatest-parts c, le-greatest (row_absolute_sum c) (length c.bounds) i l);
  next = λ i l. omega (arith, h, greatest-parts c, le-greatest (next_magnitude c) (length c.bounds) i l);
  sums = λ j l. omega (arith, h, greatest-parts c, le-greatest (sum_magnitude c) (length c.offsets) j l);
}

-- ---- rows against lists within magnitudes
-- the state's products of plan entry j
pub own_le : (c : Numbers) (state : List ℤ) (j : ℕ) → AreWithin state (state_magnitudes c) → abs_dot (row_of c.state_gains j) state ≤ entry_absolute_sum c j
own_le c state j w =
    omega (arith, abs_dot-magnitudes (row_of c.state_gains j) state (state_magnitudes c) w, le_times_pow (weighted_abs_sum (row_of c.state_gains j) (state_magnitudes c) + unsigned_abs (at c.offsets j) * 2 ^ c.fraction_bits) c.step_exponent)

-- the multipliers' products of plan entry j
pub dual_le : (c : Numbers) (multipliers : List ℤ) (j : ℕ) → AreWithin multipliers (clamp_magnitudes c) → abs_dot (row_of c.dual_gains j) multipliers ≤ entry_absolute_sum c j
dual_le c multipliers j w = omega (arith, abs_dot-magnitudes (row_of c.dual_gains j) multipliers (clamp_magnitudes c) w)

-- the plan's products of row i
pub planned_le : (c : Numbers) (plan : List ℤ) (i : ℕ) → AreWithin plan (plan_magnitudes c) → abs_dot (row_of c.plan_rows i) plan ≤ row_absolute_sum c i
planned_le c plan i w = omega (arith, abs_dot-magnitudes (row_of c.plan_rows i) plan (plan_magnitudes c) w)

-- the sum of row i, with the state's products one by one
pub row_parts_le : (c : Numbers) (state plan : List ℤ) (i : ℕ) → AreWithin state (state_magnitudes c) → AreWithin plan (plan_magnitudes c) →
    unsigned_abs (list_dot (row_of c.plan_rows i) plan) + abs_dot (row_of c.state_rows i) state + unsigned_abs (at c.bounds i) * 2 ^ c.fraction_bits ≤ row_absolute_sum c i
row_parts_le c state plan i w v =
    omega (arith, abs-dot_le (row_of c.plan_rows i) plan, abs_dot-magnitudes (row_of c.plan_rows i) plan (plan_magnitudes c) v, abs_dot-magnitudes (row_of c.state_rows i) state (state_magnitudes c) w)

pub row_le : (c : Numbers) (state plan : List ℤ) (i : ℕ) → AreWithin state (state_magnitudes c) → AreWithin plan (plan_magnitudes c) →
    unsigned_abs (list_dot (row_of c.plan_rows i) plan) + unsigned_abs (list_dot (row_of c.state_rows i) state) + unsigned_abs (at c.bounds i) * 2 ^ c.fraction_bits ≤ row_absolute_sum c i
row_le c state plan i w v = omega (arith, abs-dot_le (row_of c.state_rows i) state, row_parts_le c state plan i w v)

-- a multiplier before it is clamped
pub next_le : (c : Numbers) (state plan : List ℤ) (old : ℤ) (i : ℕ) → unsigned_abs old ≤ unsigned_abs c.clamp → AreWithin state (state_magnitudes c) → AreWithin plan (plan_magnitudes c) →
    unsigned_abs old + ceil_div (unsigned_abs (list_dot (row_of c.plan_rows i) plan) + unsigned_abs (list_dot (row_of c.state_rows i) state) + unsigned_abs (at c.bounds i) * 2 ^ c.fraction_bits) (2 ^ c.fraction_bits) ≤ next_magnitude c i
next_le c state plan old i le w v =
    let row = unsigned_abs (list_dot (row_of c.plan_rows i) plan) + unsigned_abs (list_dot (row_of c.state_rows i) state) + unsigned_abs (at c.bounds i) * 2 ^ c.fraction_bits in
    omega (arith, le, ceil_div_mono row (row_absolute_sum c i) (2 ^ c.fraction_bits) (pow_pos c.fraction_bits) (row_le c state plan i w v))
