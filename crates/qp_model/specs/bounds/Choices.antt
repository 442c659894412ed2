-- The multiplier bound, the number of steps, and the bounds that are printed.
use Rattle.std.specs.Prelude.{ℕ, ◌+◌, ◌*◌, ◌^◌, min, max, unsigned_abs}
use Rattle.integer_algebra.specs.Division.{ceil_div}
use Rattle.qp_model.specs.declared.bounds.Margin.{Margin}

-- R: the least whole number from 1 on that is at least the greatest cost over the least slack, where that is units / 2^16
abbrev pub multiplier_bound : (units cost : ℕ) → ℕ
multiplier_bound units cost = max 1 (ceil_div (2 ^ 16 * cost) units)

-- `multiplier`
abbrev pub multiplier_size : (units cost : ℕ) → ℕ
multiplier_size units cost = max (2 ^ 16 * cost) (2 ^ 82 * multiplier_bound units cost)

-- R and the quantity, of a margin
abbrev pub multiplier_of : Margin → ℕ
multiplier_of m = multiplier_bound (unsigned_abs m.units) (unsigned_abs m.cost)

abbrev pub multiplier_size_of : Margin → ℕ
multiplier_size_of m = multiplier_size (unsigned_abs m.units) (unsigned_abs m.cost)

-- K: the steps of a run after which 2^(s+1) R / K is at most the steps' share of the violation's target, in units of 2^-40
abbrev pub step_count : (s r step_target : ℕ) → ℕ
step_count s r step_target = ceil_div (2 ^ (s + 41) * r) step_target

-- by how much a plan exceeds a row with the step exponent e at most, in units of 2^-40, where s is the greatest exponent
abbrev pub row_violation_bound : (e s r k eps : ℕ) → ℕ
row_violation_bound e s r k eps = ceil_div ((2 ^ e + 2 ^ s) * 2 ^ 40 * r) k + ceil_div eps r

-- by how much it exceeds any row at most: a row with the greatest exponent
abbrev pub violation_bound : (s r k eps : ℕ) → ℕ
violation_bound s r k eps = ceil_div (2 ^ (s + 41) * r) k + ceil_div eps r

-- how much more than it some feasible plan costs at most, in units of 2^-40
abbrev pub undercut_bound : (r violation : ℕ) → ℕ
undercut_bound r violation = r * violation

-- ---- made leanly: by the excess of the corners' plans, and for plans that exceed some row by more than a threshold
-- R: the least whole number from 1 on that is at least the greatest excess over the sum of the least slack and the threshold, which are excess, units
-- and share over 2^16
abbrev pub lean_multiplier : (units excess share : ℕ) → ℕ
lean_multiplier units excess share = max 1 (ceil_div excess (units + share))

-- `multiplier`
abbrev pub lean_multiplier_size : (units excess share : ℕ) → ℕ
lean_multiplier_size units excess share = max excess (2 ^ 82 * lean_multiplier units excess share)

-- by how much a plan exceeds a row with the step exponent e at most, in units of 2^-40, where steps and errors leave no more than the threshold
abbrev pub lean_row_violation : (e r k eps threshold : ℕ) → ℕ
lean_row_violation e r k eps threshold = min threshold (ceil_div threshold 2 + ceil_div (2 ^ (e + 40) * r) k + ceil_div eps (2 * r))
