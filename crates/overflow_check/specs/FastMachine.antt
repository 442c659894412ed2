-- The accelerated machine: the accelerated dual gradient projection method in whole numbers, with floors.
--
-- Step k has the weight k + 2. Three lists take the place of the multipliers: those that are moved, by the weight times the residual, and clamped; their sum by
-- the weights; and the mean of both, which the plan is made at. The sum is exact, so only the mean is rounded.
use Rattle.std.specs.Prelude.{◌≡◌, ℕ, zero, suc, ◌+◌, ◌*◌, ◌/◌, ◌^◌, ℤ, pos, ◌+ℤ◌, ◌*ℤ◌, List, length, map, replicate}
use Rattle.std.specs.List.{range_with_len}
use Rattle.std.specs.Int.{int_max, int_min}
use Rattle.integer_algebra.specs.Division.{floor_of}
use Rattle.integer_algebra.specs.Sums.{at}
use Rattle.qp_model.specs.machine.Controller.{Numbers}
use Rattle.qp_model.specs.machine.Machine.{lowering_of, raised, plan_of, row_sum, loaded}

-- ---- weights
-- of step k, counted from 0
abbrev pub step_weight : ℕ → ℕ
step_weight k = k + 2

-- of n steps together
unfoldable pub all_weights : ℕ → ℕ
all_weights n = n * (n + 3) / 2

-- twice those of step k and the steps before it: what the mean of step k is divided by
abbrev pub mean_divisor : ℕ → ℕ
mean_divisor k = (k + 1) * (k + 4)

-- one step more adds its weight, and a mean is divided by twice what they then come to
pub record WeightSumLaw : Type 0 where
  pub twice : (n : ℕ) → 2 * all_weights n ≡ n * (n + 3)
  pub more : (k : ℕ) → all_weights (suc k) ≡ all_weights k + step_weight k
  pub divisor : (k : ℕ) → mean_divisor k ≡ 2 * all_weights (suc k)

-- ---- what the machine has made
-- the means are over 2^(fraction_bits + step_exponent), as the gains are multiplied with them; multiplier i and what was reached of it are over
-- 2^(fraction_bits + exponent + 1), with the exponent of row i; the plan and the sums over 2^fraction_bits
pub record FastIterate : Type 0 where
  pub means : List ℤ
  pub plan : List ℤ
  pub multipliers : List ℤ
  pub reached : List ℤ
  pub sums : List ℤ

-- by its lists
abbrev pub fast_lists : (means plan multipliers reached sums : List ℤ) → FastIterate
fast_lists means plan multipliers reached sums = record { means = means; plan = plan; multipliers = multipliers; reached = reached; sums = sums }

abbrev pub fast_start : Numbers → FastIterate
fast_start c = record {
  means = replicate (length c.bounds) (pos 0);
  plan = replicate (length c.offsets) (pos 0);
  multipliers = replicate (length c.bounds) (pos 0);
  reached = replicate (length c.bounds) (pos 0);
  sums = replicate (length c.offsets) (pos 0);
}

-- ---- one step
-- the greatest multiplier of row i: twice the clamp, over 2^(fraction_bits + its exponent + 1), rounded down
abbrev pub fast_top : Numbers → ℕ → ℤ
fast_top c i = floor_of (pos 2 *ℤ c.clamp) (2 ^ lowering_of c i)

-- the mean of the multipliers reached before step k and of its own, by their weights, rounded down: over 2^(fraction_bits + exponent)
abbrev pub mean_at : ℕ → (multipliers reached : List ℤ) → ℕ → ℤ
mean_at k multipliers reached i = floor_of (at reached i +ℤ pos (step_weight k) *ℤ at multipliers i) (mean_divisor k)

abbrev pub means_of : Numbers → ℕ → (multipliers reached : List ℤ) → List ℤ
means_of c k multipliers reached = raised c (map (mean_at k multipliers reached) (range_with_len 0 (length c.bounds)))

-- multiplier i, moved along its row by so much weight and kept between 0 and the greatest of the row
abbrev pub moved_multiplier : Numbers → (state plan : List ℤ) → (weight : ℕ) → (old : ℤ) → ℕ → ℤ
moved_multiplier c state plan weight old i =
    int_min (fast_top c i) (int_max (old +ℤ pos weight *ℤ floor_of (row_sum c state plan i) (2 ^ c.fraction_bits)) (pos 0))

abbrev pub moved_multipliers : Numbers → (state plan : List ℤ) → (weight : ℕ) → List ℤ → List ℤ
moved_multipliers c state plan weight multipliers =
    map (λ i. moved_multiplier c state plan weight (at multipliers i) i) (range_with_len 0 (length c.bounds))

-- the sums with so many times the numbers added
abbrev pub added_times : ℕ → (sums numbers : List ℤ) → List ℤ
added_times weight sums numbers = map (λ j. at sums j +ℤ pos weight *ℤ at numbers j) (range_with_len 0 (length numbers))

-- the plan at the means, the multipliers moved at that plan, and both sums with theirs added
abbrev pub fast_step : Numbers → List ℤ → ℕ → FastIterate → FastIterate
fast_step c state k made =
    let means = means_of c k made.multipliers made.reached in
    let plan = plan_of c state means in
    let multipliers = moved_multipliers c state plan (step_weight k) made.multipliers in
    record {
      means = means;
      plan = plan;
      multipliers = multipliers;
      reached = added_times (step_weight k) made.reached multipliers;
      sums = added_times (step_weight k) made.sums plan;
    }

-- ---- runs
-- what it has made after so many steps from a state over 2^fraction_bits
unfoldable pub fast_after : Numbers → List ℤ → ℕ → FastIterate
fast_after c state zero = fast_start c
fast_after c state (suc k) = fast_step c state k (fast_after c state k)

-- what it has made after all its steps from a grid state
abbrev pub fast_run : Numbers → List ℤ → FastIterate
fast_run c xi = fast_after c (loaded c xi) c.steps

-- ---- the averaged plan, by the weights
-- it has the sums of the run as numerators, over this
abbrev pub fast_denominator : Numbers → ℕ
fast_denominator c = all_weights c.steps * 2 ^ c.fraction_bits

abbrev pub fast_plan : Numbers → List ℤ → List ℤ
fast_plan c xi = (fast_run c xi).sums
