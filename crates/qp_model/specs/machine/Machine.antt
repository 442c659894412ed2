-- The machine: the dual gradient projection method in whole numbers, with floors.
use Rattle.std.specs.Prelude.{◌≡◌, ℕ, ◌+◌, ◌-◌, ◌*◌, ◌^◌, ◌<◌, ℤ, pos, ◌+ℤ◌, ◌-ℤ◌, ◌*ℤ◌, ◌≤ℤ◌, neg_ℤ, List, length, map, zero, suc, replicate, slice_index_or}
use Rattle.std.specs.List.{range_with_len}
use Rattle.std.specs.Int.{int_max, int_min}
use Rattle.integer_algebra.specs.Division.{floor_of}
use Rattle.integer_algebra.specs.Sums.{at}
use Rattle.mat_int.specs.Row.{list_dot}
use Rattle.mat_int.specs.Matrix.{row_of}
use Rattle.qp_model.specs.machine.Controller.{Numbers}

-- ---- the state
-- coordinate i lies in the box
pub record IsInside (c : Numbers) (xi : List ℤ) (i : ℕ) : Type 0 where
  pub low : at c.low i ≤ℤ at xi i
  pub high : at xi i ≤ℤ at c.high i

-- a grid state of the box: whole numbers over 2^grid_bits
pub record IsAdmissible (c : Numbers) (xi : List ℤ) : Type 0 where
  pub long : length xi ≡ c.states
  pub each : (i : ℕ) → i < c.states → IsInside c xi i

-- the state over 2^fraction_bits
abbrev pub loaded : Numbers → List ℤ → List ℤ
loaded c xi = map (λ x. x *ℤ pos (2 ^ (c.fraction_bits - c.grid_bits))) xi

-- ---- exponents
-- the step exponent of row i: a step along it is 2^-exponent, and its multiplier is over 2^(fraction_bits + exponent)
abbrev pub exponent_of : Numbers → ℕ → ℕ
exponent_of c i = slice_index_or c.exponents i 0

-- by how many bits it is below the greatest
abbrev pub lowering_of : Numbers → ℕ → ℕ
lowering_of c i = c.step_exponent - exponent_of c i

-- the multipliers over 2^(fraction_bits + step_exponent), as the gains are multiplied with them
abbrev pub raised : Numbers → List ℤ → List ℤ
raised c multipliers = map (λ i. at multipliers i *ℤ pos (2 ^ lowering_of c i)) (range_with_len 0 (length c.bounds))

-- the greatest multiplier of row i: the clamp over 2^(fraction_bits + its exponent), rounded down
abbrev pub top_of : Numbers → ℕ → ℤ
top_of c i = floor_of c.clamp (2 ^ lowering_of c i)

-- ---- one step
-- the sum S_j, which plan entry j is the floor of, before the shift and the sign; the multipliers are over 2^(fraction_bits + step_exponent)
abbrev pub entry_sum : Numbers → List ℤ → List ℤ → ℕ → ℤ
entry_sum c state multipliers j =
    (list_dot (row_of c.state_gains j) state +ℤ at c.offsets j *ℤ pos (2 ^ c.fraction_bits)) *ℤ pos (2 ^ c.step_exponent)
    +ℤ list_dot (row_of c.dual_gains j) multipliers

-- plan entry j, over 2^fraction_bits
abbrev pub plan_entry : Numbers → List ℤ → List ℤ → ℕ → ℤ
plan_entry c state multipliers j = neg_ℤ (floor_of (entry_sum c state multipliers j) (2 ^ (c.fraction_bits + c.step_exponent)))

abbrev pub plan_of : Numbers → List ℤ → List ℤ → List ℤ
plan_of c state multipliers = map (plan_entry c state multipliers) (range_with_len 0 (length c.offsets))

-- the residual of row i at the plan, over 2^(2 fraction_bits)
abbrev pub row_sum : Numbers → List ℤ → List ℤ → ℕ → ℤ
row_sum c state plan i =
    list_dot (row_of c.plan_rows i) plan +ℤ list_dot (row_of c.state_rows i) state -ℤ at c.bounds i *ℤ pos (2 ^ c.fraction_bits)

-- multiplier i, moved along its row and kept between 0 and the greatest of the row
abbrev pub next_multiplier : Numbers → List ℤ → List ℤ → ℤ → ℕ → ℤ
next_multiplier c state plan old i =
    int_min (top_of c i) (int_max (old +ℤ floor_of (row_sum c state plan i) (2 ^ c.fraction_bits)) (pos 0))

abbrev pub next_multipliers : Numbers → List ℤ → List ℤ → List ℤ → List ℤ
next_multipliers c state plan multipliers = map (λ i. next_multiplier c state plan (at multipliers i) i) (range_with_len 0 (length c.bounds))

-- the sums with the plan added
abbrev pub added : List ℤ → List ℤ → List ℤ
added sums plan = map (λ j. at sums j +ℤ at plan j) (range_with_len 0 (length plan))

-- what the machine has made
pub record Iterate : Type 0 where
  pub plan : List ℤ
  pub multipliers : List ℤ
  pub sums : List ℤ

abbrev pub start_of : Numbers → Iterate
start_of c = record { plan = replicate (length c.offsets) (pos 0); multipliers = replicate (length c.bounds) (pos 0); sums = replicate (length c.offsets) (pos 0) }

-- the plan at the multipliers, the multipliers moved at that plan, and the sums with it added
abbrev pub step_of : Numbers → List ℤ → Iterate → Iterate
step_of c state made =
    let plan = plan_of c state (raised c made.multipliers) in
    record { plan = plan; multipliers = next_multipliers c state plan made.multipliers; sums = added made.sums plan }

-- ---- runs
-- what it has made after so many steps from a state over 2^fraction_bits
unfoldable pub after : Numbers → List ℤ → ℕ → Iterate
after c state zero = start_of c
after c state (suc k) = step_of c state (after c state k)

-- what it has made after all its steps from a grid state
abbrev pub run_of : Numbers → List ℤ → Iterate
run_of c xi = after c (loaded c xi) c.steps

-- ---- the averaged plan
-- it has the sums of the run as numerators, over this
abbrev pub average_denominator : Numbers → ℕ
average_denominator c = c.steps * 2 ^ c.fraction_bits

abbrev pub averaged_plan : Numbers → List ℤ → List ℤ
averaged_plan c xi = (run_of c xi).sums
