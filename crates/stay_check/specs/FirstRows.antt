-- The limits that the first state and the first inputs of a plan decide, as whole forms in both.
use Rattle.std.specs.Prelude.{ℕ, ◌+◌, ◌-◌, ◌==◌, Bool, true, if◌then◌else◌, nat_lt, ℤ, pos, ◌*ℤ◌, List, length, filter, get_or}
use Rattle.std.specs.List.{range_with_len}
use Rattle.integer_algebra.specs.Sums.{coimage}
use Rattle.integer_algebra.specs.Sizes.{size}
use Rattle.qp_model.specs.problem.Design.{Design, LimitRow}

-- asks that (of_state'x + of_input'u) / plant_denominator is at most bound, all over limit_denominator, at the first state x and the first
-- inputs u; and the design's row that asks it
pub record FirstRow : Type 0 where
  pub of_state : ℕ → ℤ
  pub of_input : ℕ → ℤ
  pub bound : ℤ
  pub row : ℕ

-- stage limit i, at stage 0
abbrev pub row_at_start : Design → ℕ → FirstRow
row_at_start d i = record {
  of_state = λ j. pos d.plant_denominator *ℤ (d.stage_limit i).of_state j;
  of_input = λ l. pos d.plant_denominator *ℤ (d.stage_limit i).of_input l;
  bound = (d.stage_limit i).bound;
  row = i;
}

-- ---- limits on the state of stage 1: with one stage the final ones, else the stage limits that no input is a part of
-- limit i of those among which they are, and how many these are
abbrev pub next_limit : Design → ℕ → LimitRow
next_limit d i = if d.stages == 1 then d.final_limit i else d.stage_limit i

abbrev pub next_limits : Design → ℕ
next_limits d = if d.stages == 1 then d.final_limits else d.stage_limits

-- limit i is on that state alone
abbrev pub is_on_state : Design → ℕ → Bool
is_on_state d i = if d.stages == 1 then true else size d.inputs (d.stage_limit i).of_input == 0

-- their numbers, in order
abbrev pub limits_on_state : Design → List ℕ
limits_on_state d = filter (is_on_state d) (range_with_len 0 (next_limits d))

-- limit i, through the plant
abbrev pub row_at_next : Design → ℕ → FirstRow
row_at_next d i = record {
  of_state = coimage d.states d.plant_a (next_limit d i).of_state;
  of_input = coimage d.states d.plant_b (next_limit d i).of_state;
  bound = (next_limit d i).bound;
  row = d.stage_limits + i;
}

-- ---- the first rows: those at stage 0, then those on the state of stage 1
abbrev pub first_row_count : Design → ℕ
first_row_count d = d.stage_limits + length (limits_on_state d)

-- number r of them, from 0
abbrev pub first_row : Design → ℕ → FirstRow
first_row d r = if nat_lt r d.stage_limits then row_at_start d r else row_at_next d (get_or (limits_on_state d) (r - d.stage_limits) 0)
