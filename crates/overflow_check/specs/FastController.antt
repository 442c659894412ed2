-- What makes numbers a controller of the accelerated machine, and the absolute sums, which bound each value that it meets.
use Rattle.std.specs.Prelude.{◌≡◌, ℕ, ◌+◌, ◌-◌, ◌*◌, ◌^◌, ◌≤◌, ◌∷◌, ◌++◌, length, map, unsigned_abs, slice_index_or}
use Rattle.std.specs.List.{range_with_len}
use Rattle.integer_algebra.specs.Division.{ceil_div}
use Rattle.qp_model.specs.problem.Limits.{last_version}
use Rattle.qp_model.specs.problem.Range.{LiesIn}
use Rattle.qp_model.specs.machine.Controller.{Numbers, plan_length, IsSized}
use Rattle.qp_model.specs.machine.AbsoluteSums.{state_magnitudes, entry_absolute_sum, plan_magnitudes, row_absolute_sum, greatest_of}
use Rattle.overflow_check.specs.FastMachine.{all_weights}

-- ---- shapes and ranges
-- the version of the texts of these controllers
abbrev pub fast_version : ℕ
fast_version = 3

-- a mean is divided by at most this many steps and three more, times one more: below 2^32
abbrev pub most_fast_steps : ℕ
most_fast_steps = 65534

-- the same numbers as those of another version of the plain machine, whose words are fewer
abbrev pub as_version : ℕ → Numbers → Numbers
as_version version c = record c { version = version; words = c.states + c.rows + 2 * plan_length c }

abbrev pub with_last_version : Numbers → Numbers
with_last_version c = as_version last_version c

-- the shapes and ranges, but for the width: those of version 2, for fewer steps; the words hold a state, three lists of multipliers, a plan and sums
pub record IsFastSized (c : Numbers) : Type 0 where
  pub version : c.version ≡ fast_version
  pub words : c.words ≡ c.states + 3 * c.rows + 2 * plan_length c
  pub steps : LiesIn 1 most_fast_steps c.steps
  pub rest : IsSized (with_last_version c)

-- the same with the width
pub record IsFastInForm (c : Numbers) : Type 0 where
  pub sized : IsFastSized c
  pub width : LiesIn 2 128 c.width

-- ---- absolute sums, beside those of the state, of what each plan entry is made of and of each row
-- of a multiplier before it is clamped
abbrev pub moved_magnitude : Numbers → ℕ → ℕ
moved_magnitude c i = 2 * unsigned_abs c.clamp + (c.steps + 1) * ceil_div (row_absolute_sum c i) (2 ^ c.fraction_bits)

-- of the multipliers reached, summed by the weights
abbrev pub reached_magnitude : Numbers → ℕ
reached_magnitude c = 2 * unsigned_abs c.clamp * all_weights c.steps

-- of the sums of a run
abbrev pub fast_sum_magnitude : Numbers → ℕ → ℕ
fast_sum_magnitude c j = all_weights c.steps * slice_index_or (plan_magnitudes c) j 0

-- the greatest of all
abbrev pub greatest_fast_sum : Numbers → ℕ
greatest_fast_sum c = greatest_of (reached_magnitude c ∷ state_magnitudes c ++ map (entry_absolute_sum c) (range_with_len 0 (length c.offsets))
    ++ map (row_absolute_sum c) (range_with_len 0 (length c.bounds)) ++ map (moved_magnitude c) (range_with_len 0 (length c.bounds))
    ++ map (fast_sum_magnitude c) (range_with_len 0 (length c.offsets)))

-- a controller: its numbers are in form, and no absolute sum passes 2^126 or its own width
pub record IsFastController (c : Numbers) : Type 0 where
  pub form : IsFastInForm c
  pub room : greatest_fast_sum c ≤ 2 ^ 126
  pub fit : greatest_fast_sum c ≤ 2 ^ (c.width - 1) - 1
