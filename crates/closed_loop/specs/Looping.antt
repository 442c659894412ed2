-- The closed loop of a design's plant with a controller of any machine, by what of the machine's runs goes into it.
use Rattle.std.specs.Prelude.{ℕ, zero, suc, ◌+◌, ◌-◌, ◌*◌, ◌^◌, ◌<◌, ◌≤◌, ℤ, pos, ◌+ℤ◌, ◌*ℤ◌, List, [], ◌∷◌, ◌++◌, length, map, take, unsigned_abs, slice_index_or}
use Rattle.std.specs.List.{range_with_len}
use Rattle.integer_algebra.specs.Division.{round_of}
use Rattle.integer_algebra.specs.Sums.{image, at}
use Rattle.integer_algebra.specs.Sizes.{amount}
use Rattle.number_text.specs.Lines.{spaced}
use Rattle.qp_model.specs.problem.Design.{Design}
use Rattle.qp_model.specs.problem.Range.{LiesIn}
use Rattle.qp_model.specs.form.Quantities.{greatest}
use Rattle.qp_model.specs.machine.Controller.{Numbers, IsSized}
use Rattle.qp_model.specs.machine.Machine.{IsAdmissible, averaged_plan}
use Rattle.qp_model.specs.machine.AbsoluteSums.{plan_magnitudes, greatest_of}
use Rattle.qp_model.specs.machine.LoopSize.{state_absolute_sum}
use Rattle.overflow_check.specs.FastMachine.{all_weights, fast_plan}
use Rattle.overflow_check.specs.FastController.{with_last_version}

-- A controller, and of the runs of its machine what all steps weigh together, the numerators of the averaged plan from a grid state, over that times
-- 2^fraction_bits, and how far entry l of a step's plan lies from 0 at most, over 2^fraction_bits.
pub record Looping : Type 0 where
  pub controller : Numbers
  pub weight : ℕ
  pub plan : List ℤ → List ℤ
  pub magnitude : ℕ → ℕ

-- by the plain machine each step weighs 1
abbrev pub looping_of_plain : Numbers → Looping
looping_of_plain c = record { controller = c; weight = c.steps; plan = averaged_plan c; magnitude = λ l. slice_index_or (plan_magnitudes c) l 0 }

-- by the accelerated one all K steps weigh K (K + 3) / 2; no entry of a plan lies farther from 0 than the greatest magnitude
abbrev pub looping_of_fast : Numbers → Looping
looping_of_fast c = record { controller = c; weight = all_weights c.steps; plan = fast_plan c; magnitude = λ l. greatest_of (plan_magnitudes c) }

-- ---- what is known of it
-- shapes and ranges, but for words and width, and that no first input of the averaged plan, from a state of the box, passes the steps' weight times its
-- magnitude, which is at most 2^126
pub record IsLooping (l : Looping) : Type 0 where
  pub sized : IsSized (with_last_version l.controller)
  pub weight : LiesIn 1 (2 ^ 31) l.weight
  pub room : (j : ℕ) → j < l.controller.inputs → l.weight * l.magnitude j ≤ 2 ^ 126
  pub long : (xi : List ℤ) → IsAdmissible l.controller xi → l.controller.inputs ≤ length (l.plan xi)
  pub within : (xi : List ℤ) → IsAdmissible l.controller xi → (j : ℕ) → j < l.controller.inputs → unsigned_abs (at (l.plan xi) j) ≤ l.weight * l.magnitude j

-- ---- the next state
-- what a number over 2^grid_bits is times, to be over the averaged plan's denominator
abbrev pub grid_scale_by : Looping → ℕ
grid_scale_by l = l.weight * 2 ^ (l.controller.fraction_bits - l.controller.grid_bits)

-- coordinate i over 2^grid_bits, under the first inputs of the averaged plan, as a numerator over next_over_by
abbrev pub next_sum_by : Design → Looping → List ℤ → ℕ → ℤ
next_sum_by d l xi i =
    image d.states d.plant_a (at xi) i *ℤ pos (grid_scale_by l) +ℤ
    image d.inputs d.plant_b (at (l.plan xi)) i

-- what these numerators are over
abbrev pub next_over_by : Design → Looping → ℕ
next_over_by d l = d.plant_denominator * grid_scale_by l

-- over 2^grid_bits: the nearest whole numbers, a tie upward
abbrev pub successor_by : Design → Looping → List ℤ → List ℤ
successor_by d l xi = map (λ i. round_of (next_sum_by d l xi i) (next_over_by d l)) (range_with_len 0 d.states)

-- and shifted by whole numbers over 2^grid_bits
abbrev pub shifted_by : Design → Looping → List ℤ → (shift : ℕ → ℤ) → List ℤ
shifted_by d l xi shift = map (λ i. at (successor_by d l xi) i +ℤ shift i) (range_with_len 0 d.states)

-- the state after so many turns from a start; after turn k, from 0, the state is shifted by `shifts k`
unfoldable pub state_by : Design → Looping → List ℤ → (shifts : ℕ → ℕ → ℤ) → ℕ → List ℤ
state_by d l start shifts zero = start
state_by d l start shifts (suc k) = shifted_by d l (state_by d l start shifts k) (shifts k)

-- ---- the quantity `turn`
-- row i of the inputs at the farthest plans of all steps together, over 2^fraction_bits
abbrev pub input_absolute_sum_by : Design → Looping → ℕ → ℕ
input_absolute_sum_by d l i = amount d.inputs (λ j. unsigned_abs (d.plant_b i j) * (l.weight * l.magnitude j))

-- with that of the farthest states, over the averaged plan's denominator
abbrev pub turn_absolute_sum_by : Design → Looping → ℕ → ℕ
turn_absolute_sum_by d l i = state_absolute_sum d l.controller i * grid_scale_by l + input_absolute_sum_by d l i

-- twice the greatest, and what the next state is over
abbrev pub turn_size_by : Design → Looping → ℕ
turn_size_by d l = 2 * greatest d.states (turn_absolute_sum_by d l) + next_over_by d l

-- ---- lines
-- what the averaged plan is over
abbrev pub denominator_by : Looping → ℕ
denominator_by l = l.weight * 2 ^ l.controller.fraction_bits

-- the record, the turn, the state, and the first inputs of the averaged plan with their denominator
abbrev pub line_by : Looping → (entry turn : ℕ) → List ℤ → List ℕ
line_by l entry turn xi =
    spaced (pos entry ∷ pos turn ∷ xi ++ pos (denominator_by l) ∷ take l.controller.inputs (l.plan xi)) ++ 10 ∷ []

-- those of the first turns, by their states
unfoldable pub lines_of : Looping → (entry : ℕ) → (states : ℕ → List ℤ) → ℕ → List ℕ
lines_of l entry states zero = []
lines_of l entry states (suc k) = lines_of l entry states k ++ line_by l entry (k + 1) (states k)
