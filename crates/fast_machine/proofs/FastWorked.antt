-- Runs that were followed by hand, and what refuses one step more.
use Rattle.std.proofs.Common.{◌≡◌, List, [], ◌∷◌, ℤ, pos, negsuc, map, refl}
use Rattle.mat_int.specs.Matrix.{Matrix}
use Rattle.qp_model.specs.machine.Controller.{Numbers}
use Rattle.overflow_check.specs.FastMachine.{step_weight, all_weights, mean_divisor, fast_top, fast_after, fast_run, fast_denominator, fast_plan}
use Rattle.overflow_check.specs.FastController.{greatest_fast_sum, reached_magnitude}

abbrev one_row : List ℤ → Matrix
one_row row = record { cols = 3; rows = row ∷ [] }

abbrev one_column : (a b c : ℤ) → Matrix
one_column a b c = record { cols = 1; rows = (a ∷ []) ∷ (b ∷ []) ∷ (c ∷ []) ∷ [] }

-- one input at one stage of one state, with three rows
abbrev followed : Numbers
followed = record {
  version = 3;
  states = 1;
  inputs = 1;
  stages = 1;
  rows = 3;
  fraction_bits = 9;
  grid_bits = 0;
  step_exponent = 1;
  width = 22;
  steps = 3;
  clamp = pos 2048;
  words = 12;
  exponents = 0 ∷ 1 ∷ 1 ∷ [];
  low = pos 0 ∷ [];
  high = pos 1 ∷ [];
  state_gains = record { cols = 1; rows = (pos 256 ∷ []) ∷ [] };
  offsets = pos 0 ∷ [];
  dual_gains = one_row (pos 128 ∷ negsuc 127 ∷ pos 128 ∷ []);
  plan_rows = one_column (pos 512) (negsuc 511) (pos 512);
  state_rows = one_column (pos 0) (pos 0) (pos 512);
  bounds = pos 512 ∷ pos 512 ∷ pos 128 ∷ [];
}

-- ---- weights
weights_of_three : map step_weight (0 ∷ 1 ∷ 2 ∷ []) ≡ 2 ∷ 3 ∷ 4 ∷ []
weights_of_three = refl

divisors_of_three : map mean_divisor (0 ∷ 1 ∷ 2 ∷ []) ≡ 4 ∷ 10 ∷ 18 ∷ []
divisors_of_three = refl

sums_of_three : map all_weights (0 ∷ 1 ∷ 2 ∷ 3 ∷ []) ≡ 0 ∷ 2 ∷ 5 ∷ 9 ∷ []
unfolding all_weights
sums_of_three = refl

tops : map (fast_top followed) (0 ∷ 1 ∷ 2 ∷ []) ≡ pos 2048 ∷ pos 4096 ∷ pos 4096 ∷ []
tops = refl

-- ---- three steps from the state 1, of which the third row alone moves
first : fast_after followed (pos 512 ∷ []) 1 ≡ record {
  means = pos 0 ∷ pos 0 ∷ pos 0 ∷ [];
  plan = negsuc 255 ∷ [];
  multipliers = pos 0 ∷ pos 0 ∷ pos 256 ∷ [];
  reached = pos 0 ∷ pos 0 ∷ pos 512 ∷ [];
  sums = negsuc 511 ∷ [];
}
unfolding fast_after
first = refl

second : fast_after followed (pos 512 ∷ []) 2 ≡ record {
  means = pos 0 ∷ pos 0 ∷ pos 128 ∷ [];
  plan = negsuc 271 ∷ [];
  multipliers = pos 0 ∷ pos 0 ∷ pos 592 ∷ [];
  reached = pos 0 ∷ pos 0 ∷ pos 2288 ∷ [];
  sums = negsuc 1327 ∷ [];
}
unfolding fast_after
second = refl

-- the mean is 4656 / 18 = 258.7, rounded down
third : fast_run followed (pos 1 ∷ []) ≡ record {
  means = pos 0 ∷ pos 0 ∷ pos 258 ∷ [];
  plan = negsuc 287 ∷ [];
  multipliers = pos 0 ∷ pos 0 ∷ pos 976 ∷ [];
  reached = pos 0 ∷ pos 0 ∷ pos 6192 ∷ [];
  sums = negsuc 2479 ∷ [];
}
unfolding fast_after
third = refl

average : fast_plan followed (pos 1 ∷ []) ≡ negsuc 2479 ∷ []
unfolding fast_after
average = refl

over : fast_denominator followed ≡ 4608
unfolding all_weights
over = refl

-- ---- one step, over 64
abbrev short : Numbers
short = record followed {
  fraction_bits = 6;
  width = 16;
  steps = 1;
  clamp = pos 256;
  state_gains = record { cols = 1; rows = (pos 32 ∷ []) ∷ [] };
  dual_gains = one_row (pos 16 ∷ negsuc 15 ∷ pos 16 ∷ []);
  plan_rows = one_column (pos 64) (negsuc 63) (pos 64);
  state_rows = one_column (pos 0) (pos 0) (pos 64);
  bounds = pos 64 ∷ pos 64 ∷ pos 16 ∷ [];
}

short_at_one : fast_plan short (pos 1 ∷ []) ≡ negsuc 63 ∷ []
unfolding fast_after
short_at_one = refl

short_at_zero : fast_plan short (pos 0 ∷ []) ≡ pos 0 ∷ []
unfolding fast_after
short_at_zero = refl

short_over : fast_denominator short ≡ 128
unfolding all_weights
short_over = refl

-- with ten steps what the multipliers come to is above 2^15 - 1, and all else is far below; with nine it isn't
greatest_of_ten : greatest_fast_sum (record short { steps = 10 }) ≡ 33280
unfolding all_weights
greatest_of_ten = refl

reached_in_ten : reached_magnitude (record short { steps = 10 }) ≡ 33280
unfolding all_weights
reached_in_ten = refl

greatest_of_nine : greatest_fast_sum (record short { steps = 9 }) ≡ 27648
unfolding all_weights
greatest_of_nine = refl

greatest_of_one : greatest_fast_sum short ≡ 16384
unfolding all_weights
greatest_of_one = refl

-- the entries' sums are the greatest of three steps: 2^20, so 22 bits hold them
greatest_of_followed : greatest_fast_sum followed ≡ 1048576
unfolding all_weights
greatest_of_followed = refl

-- ---- three steps over 1024, with multipliers up to 16
abbrev finer : Numbers
finer = record followed {
  fraction_bits = 10;
  width = 26;
  clamp = pos 32768;
  state_gains = record { cols = 1; rows = (pos 512 ∷ []) ∷ [] };
  dual_gains = one_row (pos 256 ∷ negsuc 255 ∷ pos 256 ∷ []);
  plan_rows = one_column (pos 1024) (negsuc 1023) (pos 1024);
  state_rows = one_column (pos 0) (pos 0) (pos 1024);
  bounds = pos 1024 ∷ pos 1024 ∷ pos 256 ∷ [];
}

finer_at_one : fast_plan finer (pos 1 ∷ []) ≡ negsuc 4959 ∷ []
unfolding fast_after
finer_at_one = refl

finer_over : fast_denominator finer ≡ 9216
unfolding all_weights
finer_over = refl

greatest_of_finer : greatest_fast_sum finer ≡ 26214400
unfolding all_weights
greatest_of_finer = refl
