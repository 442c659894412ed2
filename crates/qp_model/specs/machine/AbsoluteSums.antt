-- The absolute sums of a controller, which bound each value that its machine meets.
use Rattle.std.specs.Prelude.{ℕ, ◌+◌, ◌-◌, ◌*◌, max, ◌^◌, ◌≤◌, ℤ, List, [], ◌∷◌, ◌++◌, length, map, replicate, unsigned_abs, slice_index_or}
use Rattle.std.specs.List.{range_with_len}
use Rattle.integer_algebra.specs.Division.{ceil_div}
use Rattle.integer_algebra.specs.Sums.{at}
use Rattle.mat_int.specs.Matrix.{row_of}
use Rattle.qp_model.specs.machine.Controller.{Numbers, IsInForm}

-- the absolute values, each times its magnitude
abbrev pub weighted_abs_sum : List ℤ → List ℕ → ℕ
weighted_abs_sum [] ys = 0
weighted_abs_sum (x ∷ xs) [] = 0
weighted_abs_sum (x ∷ xs) (y ∷ ys) = unsigned_abs x * y + weighted_abs_sum xs ys

-- the greatest absolute value of each coordinate of a state of the box, over 2^fraction_bits: X_i
abbrev pub magnitudes_of : ℕ → List ℤ → List ℤ → List ℕ
magnitudes_of k [] highs = []
magnitudes_of k (low ∷ lows) [] = []
magnitudes_of k (low ∷ lows) (high ∷ highs) = max (unsigned_abs low) (unsigned_abs high) * 2 ^ k ∷ magnitudes_of k lows highs

abbrev pub state_magnitudes : Numbers → List ℕ
state_magnitudes c = magnitudes_of (c.fraction_bits - c.grid_bits) c.low c.high

abbrev pub clamp_magnitudes : Numbers → List ℕ
clamp_magnitudes c = replicate (length c.bounds) (unsigned_abs c.clamp)

-- A_j, of the sum that plan entry j is made of
abbrev pub entry_absolute_sum : Numbers → ℕ → ℕ
entry_absolute_sum c j =
    (weighted_abs_sum (row_of c.state_gains j) (state_magnitudes c) + unsigned_abs (at c.offsets j) * 2 ^ c.fraction_bits) * 2 ^ c.step_exponent
    + weighted_abs_sum (row_of c.dual_gains j) (clamp_magnitudes c)

-- U_j, of the plan's entries
abbrev pub plan_magnitudes : Numbers → List ℕ
plan_magnitudes c = map (λ j. ceil_div (entry_absolute_sum c j) (2 ^ (c.fraction_bits + c.step_exponent))) (range_with_len 0 (length c.offsets))

-- c_i, of a row's sum
abbrev pub row_absolute_sum : Numbers → ℕ → ℕ
row_absolute_sum c i =
    weighted_abs_sum (row_of c.plan_rows i) (plan_magnitudes c) + weighted_abs_sum (row_of c.state_rows i) (state_magnitudes c)
    + unsigned_abs (at c.bounds i) * 2 ^ c.fraction_bits

-- d_i, of a multiplier before it is clamped
abbrev pub next_magnitude : Numbers → ℕ → ℕ
next_magnitude c i = unsigned_abs c.clamp + ceil_div (row_absolute_sum c i) (2 ^ c.fraction_bits)

-- e_j, of the sums of a run
abbrev pub sum_magnitude : Numbers → ℕ → ℕ
sum_magnitude c j = c.steps * slice_index_or (plan_magnitudes c) j 0

-- the greatest number of a list
abbrev pub greatest_of : List ℕ → ℕ
greatest_of [] = 0
greatest_of (x ∷ xs) = max x (greatest_of xs)

-- the greatest of all
abbrev pub greatest_sum : Numbers → ℕ
greatest_sum c = greatest_of (state_magnitudes c ++ map (entry_absolute_sum c) (range_with_len 0 (length c.offsets))
    ++ map (row_absolute_sum c) (range_with_len 0 (length c.bounds)) ++ map (next_magnitude c) (range_with_len 0 (length c.bounds))
    ++ map (sum_magnitude c) (range_with_len 0 (length c.offsets)))

-- a controller: its numbers are in form, and no absolute sum passes 2^126 or its own width
pub record IsController (c : Numbers) : Type 0 where
  pub form : IsInForm c
  pub room : greatest_sum c ≤ 2 ^ 126
  pub fit : greatest_sum c ≤ 2 ^ (c.width - 1) - 1
